use Rattle.std.proofs.Common.{◌≤◌, ◌∙◌, map, vec_len, ap, sym, subst}
use Rattle.plain_digraph.specs.Facts.{fact_id}
use Rattle.observe_core.specs.Items.{above_all}
use Rattle.fact_table.specs.Table.{facts_of}
use Rattle.kept_views.specs.ItemViews.{marked}
use Rattle.kept_views.proofs.ItemsLemmas.{moved-items, swapped-ids}
use Rattle.plain_digraph.specs.Rising.{without_item, swapped}
use Rattle.kept_views.specs.Ordered.{IsOrdered, HaveRows}
use Rattle.kept_views.proofs.Rows.{without_swapped, rows_swapped}
use Rattle.kept_views.proofs.items.KeptItems.swap.Goals as goal

pub invariant_of-self : goal.invariant_of-self
invariant_of-self c =
    let self = c.args.self.now in
    record {
      ordered = c.enter.ensures.ordered;
      covered =
          subst (λ l. above_all l ≤ vec_len self.marks)
          (sym (ap (map fact_id) c.replace.ensures.swapped
          ∙ swapped-ids c.args.new (facts_of self.table))) self.covered;
    }

pub returns-clause-items : goal.returns-clause-items
returns-clause-items c =
    let self = c.args.self.now in
    ap (map (marked self.marks.items)) c.replace.ensures.swapped
    ∙ moved-items self.marks.items c.args.new (facts_of self.table)

pub enter-requires-clause-ordered : goal.enter-requires-clause-ordered
enter-requires-clause-ordered c =
    let self = c.args.self.now in
    let new = c.args.new in
    subst (IsOrdered c.leave.new.self)
    (sym (ap (without_item fact_id new.id) c.replace.ensures.swapped
    ∙ without_swapped new (facts_of self.table))) c.leave.ensures.ordered

pub enter-requires-clause-rows : goal.enter-requires-clause-rows
enter-requires-clause-rows c =
    let self = c.args.self.now in
    let new = c.args.new in
    let facts = facts_of self.table in
    subst (HaveRows c.leave.new.self) (sym c.replace.ensures.swapped)
    (c.leave.ensures.rows (swapped fact_id new facts)
    (rows_swapped new facts self.orders self.ordered c.requires.room))
