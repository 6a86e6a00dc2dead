use Rattle.std.proofs.Common.{sym, subst, IfSome, IfNone, ◌≡◌}
use Rattle.std.specs.Prelude.{Contains}
use Rattle.plain_digraph.specs.Facts.{fact_id}
use Rattle.observe_core.specs.Items.{Lacks}
use Rattle.fact_table.specs.Table.{facts_of}
use Rattle.kept_views.specs.Sound.{marked-facts}
use Rattle.kept_views.proofs.arcs.KeptArcs.fact.Goals as goal

pub returns-clause-there : goal.returns-clause-there
returns-clause-there c =
    let items = c.args.self.now.items in
    subst (λ fs. IfSome c.fact.result (λ f. Contains fs f × (f.id ≡ c.args.id)))
    (sym (marked-facts items.marks.items (facts_of items.table))) c.fact.ensures.there

pub returns-clause-absent : goal.returns-clause-absent
returns-clause-absent c =
    let items = c.args.self.now.items in
    subst (λ fs. IfNone c.fact.result (Lacks fact_id c.args.id fs))
    (sym (marked-facts items.marks.items (facts_of items.table))) c.fact.ensures.absent
