use Rattle.std.proofs.Common.{◌∙◌, ap}
use Rattle.plain_digraph.specs.Lists.{first}
use Rattle.fact_table.specs.Table.{facts_of}
use Rattle.kept_views.proofs.WalkLemmas.{out_lists}
use Rattle.kept_views.proofs.arcs.KeptArcs.first_out.Goals as goal

pub returns : goal.returns
returns c =
    let k = c.args.self.now in
    c.first.ensures (facts_of k.items.table) k.items.ordered.first
    ∙ ap first (out_lists k c.args.node)
