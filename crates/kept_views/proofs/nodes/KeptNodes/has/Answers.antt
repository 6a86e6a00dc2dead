use Rattle.std.proofs.Common.{sym}
use Rattle.std.proofs.Common.{◌∙◌}
use Rattle.fact_table.specs.Table.{facts_of}
use Rattle.kept_views.proofs.ItemsLemmas.{has-marked}
use Rattle.kept_views.proofs.WalkLemmas.{found_or_not}
use Rattle.kept_views.proofs.nodes.KeptNodes.has.Goals as goal

pub returns : goal.returns
returns c =
    let items = c.args.self.now.items in
    c.is_some.ensures
    ∙ found_or_not c.fact.result c.args.id (facts_of items.table) c.fact.ensures.there
    c.fact.ensures.absent
    ∙ sym (has-marked items.marks.items c.args.id (facts_of items.table))
