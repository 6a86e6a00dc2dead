use Rattle.std.proofs.Common.{◌≡◌, map, take}
use Rattle.desk_seats.specs.contracts.seat.SeatObserver.TheImpl.{watch-value}
use Rattle.desk_world.specs.Lines.{arc_line, line_of}
use Rattle.desk_world.specs.Plain.{plain_of}
use Rattle.desk_world.proofs.listings.World+Seat+B.see_arcs.Given as goal

abbrev pub invariant-loop-id : goal.invariant-loop-id
invariant-loop-id g l =
    let w = (watch-value g.row.B g.B.Observer g.B.Observer-dict g.B.Destruct-dict).it in
    map line_of l.seen.items ≡ map (arc_line (plain_of w l.self)) (take l.id-index l.arcs)
