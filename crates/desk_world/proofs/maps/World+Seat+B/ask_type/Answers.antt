use Rattle.plain_world.specs.Demands as demand
use Rattle.desk_seats.specs.contracts.seat.SeatObserver.TheImpl.{watch-value}
use Rattle.desk_world.specs.Faults.{Meets}
use Rattle.desk_world.specs.Plain.{plain_of}
use Rattle.desk_world.proofs.Handed.{handed_on}
use Rattle.desk_world.proofs.maps.World+Seat+B.ask_type.Goals as goal

pub returns-in_err-typed_seat : goal.returns-in_err-typed_seat
returns-in_err-typed_seat g c =
    let w = (watch-value g.row.B g.B.Observer g.B.Observer-dict g.B.Destruct-dict).it in
    let world = plain_of w c.args.self.now in
    handed_on (Meets world (demand.HasType c.args.sort c.args.kind c.args.name.now))
    c.from_residual.result _ c.from_residual.ensures.1 c.in_err-typed_seat.ensures.meets

pub returns : goal.returns
returns g c = c.in_ok-typed_seat.ensures.meets
