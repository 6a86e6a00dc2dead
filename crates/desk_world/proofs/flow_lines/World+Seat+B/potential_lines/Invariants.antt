use Rattle.std.proofs.Common.{◌≡◌, map}
use Rattle.std.specs.List.{range_with_len}
use Rattle.desk_seats.specs.contracts.seat.SeatObserver.TheImpl.{watch-value}
use Rattle.desk_world.specs.Plain.{plain_of}
use Rattle.desk_world.proofs.FlowLines.{line_of_price}
use Rattle.desk_world.proofs.flow_lines.World+Seat+B.potential_lines.Given as goal

abbrev pub invariant-loop-number : goal.invariant-loop-number
invariant-loop-number g l =
    let w = (watch-value g.row.B g.B.Observer g.B.Observer-dict g.B.Destruct-dict).it in
    l.lines.items
    ≡ map (line_of_price (plain_of w l.self) l.asked.view.now l.prices)
    (range_with_len 0 l.number)
