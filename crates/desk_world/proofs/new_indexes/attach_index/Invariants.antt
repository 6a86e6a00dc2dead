use Rattle.desk_seats.specs.contracts.seat.SeatObserver.TheImpl.{watch-value}
use Rattle.desk_world.proofs.IndexMade.{IsFilling}
use Rattle.desk_world.proofs.new_indexes.attach_index.Given as goal

abbrev pub invariant-loop-id : goal.invariant-loop-id
invariant-loop-id g l =
    let w = (watch-value g.row.B g.B.Observer g.B.Observer-dict g.B.Destruct-dict).it in
    IsFilling w l.sort l.key.0 l.source.0 l.fn.graph l.id l.graph
