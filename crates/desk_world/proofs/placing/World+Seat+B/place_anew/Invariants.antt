use Rattle.desk_seats.specs.contracts.seat.SeatObserver.TheImpl.{watch-value}
use Rattle.desk_world.proofs.PlacedWalk.{IsPlacing}
use Rattle.desk_world.proofs.placing.World+Seat+B.place_anew.Given as goal

abbrev pub invariant-loop-place : goal.invariant-loop-place
invariant-loop-place g l =
    let w = (watch-value g.row.B g.B.Observer g.B.Observer-dict g.B.Destruct-dict).it in
    IsPlacing w l.fn.self l.sort l.id l.place l.self
