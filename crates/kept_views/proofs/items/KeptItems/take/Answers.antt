use Rattle.std.proofs.Common.{◌≤◌, ◌∙◌, map, vec_len, ap, sym, subst}
use Rattle.plain_digraph.specs.Facts.{fact_id}
use Rattle.observe_core.specs.Items.{above_all}
use Rattle.fact_table.specs.Table.{facts_of}
use Rattle.kept_views.specs.ItemViews.{marked}
use Rattle.kept_views.proofs.ItemsLemmas.{taken-items, above-without}
use Rattle.kept_views.specs.Ordered.{IsOrdered}
use Rattle.kept_views.proofs.items.KeptItems.take.Goals as goal

pub invariant_of-self : goal.invariant_of-self
invariant_of-self c =
    let self = c.args.self.now in
    record {
      ordered = subst (IsOrdered c.leave.new.self) (sym c.remove.ensures.taken)
          c.leave.ensures.ordered;
      covered =
          subst (λ l. above_all (map fact_id l) ≤ vec_len self.marks) (sym c.remove.ensures.taken)
          (above-without c.args.id (facts_of self.table) (vec_len self.marks) self.covered);
    }

pub returns-clause-items : goal.returns-clause-items
returns-clause-items c =
    let self = c.args.self.now in
    ap (map (marked self.marks.items)) c.remove.ensures.taken
    ∙ taken-items self.marks.items c.args.id (facts_of self.table)
