use Rattle.std.proofs.Common.{◌≡◌, ◌*◌, ◌-◌, ◌≤◌, length, take}
use Rattle.static_digraph.specs.Fixed.{graph_of}
use Rattle.flow_rows.specs.Laid.{spokes_before, starts_before}
use Rattle.flow_rows.proofs.network.network_of.Given as goal

abbrev pub invariant-loop-node : goal.invariant-loop-node
invariant-loop-node l = record {
  below : l.node ≤ l.nodes;
  long : length l.row.items ≡ 2 * (graph_of l.g).arcs;
  starts : l.start.items ≡ starts_before (graph_of l.g) l.node;
  place : l.place ≡ length (spokes_before (graph_of l.g) l.node);
  laid : take l.place l.row.items ≡ spokes_before (graph_of l.g) l.node;
}

abbrev pub decreases-loop-node : goal.decreases-loop-node
decreases-loop-node l = l.nodes - l.node
