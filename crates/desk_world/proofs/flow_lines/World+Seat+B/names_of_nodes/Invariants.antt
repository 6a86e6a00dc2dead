use Rattle.std.proofs.Common.{◌≡◌, map, take}
use Rattle.plain_world.specs.Queries.{name_of_node}
use Rattle.desk_seats.specs.contracts.seat.SeatObserver.TheImpl.{watch-value}
use Rattle.desk_world.specs.Plain.{plain_of}
use Rattle.desk_world.proofs.flow_lines.World+Seat+B.names_of_nodes.Given as goal

abbrev pub invariant-loop-number : goal.invariant-loop-number
invariant-loop-number g l =
    let w = (watch-value g.row.B g.B.Observer g.B.Observer-dict g.B.Destruct-dict).it in
    l.names.items
    ≡ map (name_of_node (plain_of w l.self) l.asked.view.now) (take l.number-index l.numbers)
