use Rattle.std.proofs.Common.{◌≡◌, take}
use Rattle.std.specs.List.{flat_map}
use Rattle.plain_digraph.specs.Items.{out_arcs}
use Rattle.desk_world.proofs.orders.arc_order.Given as goal

abbrev pub invariant-loop-node : goal.invariant-loop-node
invariant-loop-node l =
    l.arcs.items ≡ flat_map (out_arcs l.graph.graph) (take l.node-index l.node-items)
