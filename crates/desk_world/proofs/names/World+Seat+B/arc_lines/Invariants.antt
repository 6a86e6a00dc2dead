use Rattle.std.proofs.Common.{◌≡◌, map, take}
use Rattle.view_tower.specs.Layers.{tower_of}
use Rattle.desk_seats.specs.contracts.seat.SeatObserver.TheImpl.{watch-value}
use Rattle.desk_world.specs.Naming.{called_arc}
use Rattle.desk_world.specs.Plain.{plain_of}
use Rattle.desk_world.proofs.names.World+Seat+B.arc_lines.Given as goal

abbrev pub invariant-loop-arc : goal.invariant-loop-arc
invariant-loop-arc g l =
    let w = (watch-value g.row.B g.B.Observer g.B.Observer-dict g.B.Destruct-dict).it in
    l.lines.items ≡ map (called_arc (plain_of w l.self) (tower_of l.layers)) (take l.arc-index l.arcs)
