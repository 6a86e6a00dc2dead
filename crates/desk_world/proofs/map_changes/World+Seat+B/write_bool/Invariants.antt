use Rattle.desk_seats.specs.contracts.seat.SeatObserver.TheImpl.{watch-value}
use Rattle.desk_world.proofs.WriteCalls.{IsWalked}
use Rattle.desk_world.proofs.map_changes.World+Seat+B.write_bool.Given as goal

abbrev pub invariant-loop-place : goal.invariant-loop-place
invariant-loop-place g l =
    let w = (watch-value g.row.B g.B.Observer g.B.Observer-dict g.B.Destruct-dict).it in
    IsWalked w l.fn.self l.sort l.map l.fn.key l.value l.id l.place l.self
