use Rattle.std.proofs.Common.{◌≡◌, map, take}
use Rattle.plain_world.specs.Queries.{pair_line, on_left}
use Rattle.plain_world.specs.Tables.{Name}
use Rattle.desk_seats.specs.contracts.seat.SeatObserver.TheImpl.{watch-value}
use Rattle.desk_world.specs.Plain.{plain_of}
use Rattle.desk_world.specs.AskedViews.{left_nodes}
use Rattle.desk_world.proofs.flow_lines.World+Seat+B.pair_lines.Given as goal

abbrev pub invariant-loop-number : goal.invariant-loop-number
invariant-loop-number g l =
    let w = (watch-value g.row.B g.B.Observer g.B.Observer-dict g.B.Destruct-dict).it in
    let world = plain_of w l.self in
    let view = l.asked.view.now in
    (side : Name) → l.left ≡ left_nodes world view side
    → l.lines.items ≡ map (pair_line world view (on_left world view side))
    (take l.number-index l.arcs)
