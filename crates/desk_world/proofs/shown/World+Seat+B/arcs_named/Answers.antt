use Rattle.std.proofs.Common.{sym, subst, ◌∙◌, true}
use Rattle.plain_digraph.specs.Lists.{AllOf}
use Rattle.view_tower.specs.Layers.{tower_of}
use Rattle.desk_world.specs.Naming.{ComesFromLive}
use Rattle.desk_seats.specs.contracts.seat.SeatObserver.TheImpl.{watch-value}
use Rattle.desk_world.specs.Plain.{plain_of}
use Rattle.desk_world.proofs.ShownLive.{facts_live_at, found_there}
use Rattle.desk_world.proofs.shown.World+Seat+B.arcs_named.Goals as goal

pub list_at-requires : goal.list_at-requires
list_at-requires g c =
    let w = (watch-value g.row.B g.B.Observer g.B.Observer-dict g.B.Destruct-dict).it in
    found_there (plain_of w c.args.self.now) (tower_of c.args.layers.now)
    (g.G.Shown.graph c.args.g.now) c.args.name.now c.in_ok-node.node c.in_ok-node.ensures.found

pub arc_lines-requires-clause-live : goal.arc_lines-requires-clause-live
arc_lines-requires-clause-live g c =
    let graph = c.args.self.now.graph.graph.graph in
    let tower = tower_of c.args.layers.now in
    subst (AllOf (ComesFromLive graph tower))
    (sym (c.as_slice.ensures.value ∙ c.in_ok-arcs.ensures))
    (facts_live_at (g.G.Shown.graph c.args.g.now) (g.met.G.Shown.valid c.args.g.now) graph tower
    c.requires.live c.args.way c.in_ok-node.node)
