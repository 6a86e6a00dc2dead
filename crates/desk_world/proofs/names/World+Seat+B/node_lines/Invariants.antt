use Rattle.std.proofs.Common.{◌≡◌, map, take}
use Rattle.view_tower.specs.Layers.{tower_of}
use Rattle.desk_seats.specs.contracts.seat.SeatObserver.TheImpl.{watch-value}
use Rattle.desk_world.specs.Naming.{called_node}
use Rattle.desk_world.specs.Plain.{plain_of}
use Rattle.desk_world.proofs.names.World+Seat+B.node_lines.Given as goal

abbrev pub invariant-loop-node : goal.invariant-loop-node
invariant-loop-node g l =
    let w = (watch-value g.row.B g.B.Observer g.B.Observer-dict g.B.Destruct-dict).it in
    l.lines.items ≡ map (called_node (plain_of w l.self) (tower_of l.layers)) (take l.node-index l.nodes)
