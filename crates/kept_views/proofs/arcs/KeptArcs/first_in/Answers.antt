use Rattle.std.proofs.Common.{◌∙◌, ap}
use Rattle.plain_digraph.specs.Lists.{first}
use Rattle.fact_table.specs.Table.{facts_of}
use Rattle.kept_views.proofs.WalkLemmas.{in_lists, second_there, second_listed}
use Rattle.kept_views.proofs.arcs.KeptArcs.first_in.Goals as goal

pub returns : goal.returns
returns c =
    let k = c.args.self.now in
    let o = c.in-Some.order in
    c.first.ensures (facts_of k.items.table) (second_listed k o c.in-Some.is)
    ∙ ap first (in_lists k o c.in-Some.is c.args.node)

pub unreachable-requires : goal.unreachable-requires
unreachable-requires c = second_there c.args.self.now c.in-None.is
