use Rattle.std.proofs.Common.{sym, ap, ◌∙◌, w64}
use Rattle.std.proofs.lemmas.Int.{to_z-of_z}
use Rattle.plain_views.specs.Marks.{FromArc}
use Rattle.view_tower.specs.Layers.{origin_of}
use Rattle.desk_seats.specs.contracts.seat.SeatObserver.TheImpl.{watch-value}
use Rattle.desk_world.specs.Flows.{with_flow_at}
use Rattle.desk_world.specs.Plain.{plain_of}
use Rattle.desk_world.proofs.flows.World+Seat+B.put_flow_at.Goals as goal

pub returns-in-Arc-clause-put : goal.returns-in-Arc-clause-put
returns-in-Arc-clause-put g c =
    let w = (watch-value g.row.B g.B.Observer g.B.Observer-dict g.B.Destruct-dict).it in
    let world = plain_of w c.args.self.now in
    let map = c.args.map.now in
    let flow = c.args.flow in
    c.write_value.ensures.written
    ∙ ap (with_flow_at world map (FromArc c.in-Arc.arc)) (to_z-of_z w64 flow c.ranges.flow)
    ∙ ap (λ o. with_flow_at world map (origin_of o) flow) (sym c.in-Arc.is)
