use Rattle.std.proofs.Common.{sym, subst, ◌∙◌}
use Rattle.plain_digraph.specs.Lists.{AllOf}
use Rattle.view_tower.specs.Layers.{tower_of}
use Rattle.desk_world.specs.Naming.{ComesFromLive}
use Rattle.desk_world.proofs.ShownLive.{facts_live}
use Rattle.desk_world.proofs.shown.World+Seat+B.arcs_shown.Goals as goal

pub arc_lines-requires-clause-live : goal.arc_lines-requires-clause-live
arc_lines-requires-clause-live g c =
    let graph = c.args.self.now.graph.graph.graph in
    let tower = tower_of c.args.layers.now in
    subst (AllOf (ComesFromLive graph tower))
    (sym (c.as_slice.ensures.value ∙ c.in_ok-arcs.ensures.arcs))
    (facts_live (g.G.Shown.graph c.args.g.now) (g.met.G.Shown.valid c.args.g.now) graph tower
    c.requires.live)
