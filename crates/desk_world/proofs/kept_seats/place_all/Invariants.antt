use Rattle.desk_seats.specs.contracts.seat.SeatObserver.TheImpl.{watch-value}
use Rattle.desk_world.proofs.PlacedAll.{IsPlacingAll}
use Rattle.desk_world.proofs.kept_seats.place_all.Given as goal

abbrev pub invariant-loop-id : goal.invariant-loop-id
invariant-loop-id g l =
    let w = (watch-value g.row.B g.B.Observer g.B.Observer-dict g.B.Destruct-dict).it in
    IsPlacingAll w l.sort l.keys l.fn.graph l.id l.graph
