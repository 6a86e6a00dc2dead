use Rattle.std.proofs.Common.{ap, ◌∙◌}
use Rattle.plain_world.specs.Views.{shown_by}
use Rattle.view_tower.specs.Layers.{tower_of}
use Rattle.desk_seats.specs.contracts.seat.SeatObserver.TheImpl.{watch-value}
use Rattle.desk_world.specs.Plain.{plain_of}
use Rattle.desk_world.proofs.KeptListed.{by_numbers}
use Rattle.desk_world.proofs.ViewListed.{named_told_by, node_meets}
use Rattle.desk_world.proofs.view_listings.World+Seat+B.arcs_beside.Goals as goal

pub arcs_named_by-requires-clause-layers : goal.arcs_named_by-requires-clause-layers
arcs_named_by-requires-clause-layers g c =
    ap tower_of c.as_slice.ensures.value ∙ c.in_ok-layers.ensures.layers

pub returns-clause-lines : goal.returns-clause-lines
returns-clause-lines g c =
    let w = (watch-value g.row.B g.B.Observer g.B.Observer-dict g.B.Destruct-dict).it in
    let world = plain_of w c.args.self.now in
    let view = c.args.view.now in
    let tower = tower_of c.as_slice.result.now in
    let is = ap tower_of c.as_slice.ensures.value ∙ c.in_ok-layers.ensures.layers in
    named_told_by world view tower is (shown_by world view) (by_numbers world view tower is)
    c.args.way c.args.node.now c.arcs_named_by.result c.arcs_named_by.ensures.lines

pub returns-clause-meets : goal.returns-clause-meets
returns-clause-meets g c =
    let w = (watch-value g.row.B g.B.Observer g.B.Observer-dict g.B.Destruct-dict).it in
    let world = plain_of w c.args.self.now in
    let view = c.args.view.now in
    let tower = tower_of c.as_slice.result.now in
    let is = ap tower_of c.as_slice.ensures.value ∙ c.in_ok-layers.ensures.layers in
    node_meets world view tower is (shown_by world view) (by_numbers world view tower is)
    c.args.node.now c.arcs_named_by.result c.in_ok-ask_view.ensures
    c.arcs_named_by.ensures.there c.arcs_named_by.ensures.unknown
