use Rattle.std.proofs.Common.{◌-◌, ◌≡◌, ◌+◌, ◌<◌, ◌≤◌, length}
use Rattle.plain_certificates.specs.Tables.{at}
use Rattle.static_digraph.specs.Rows.{AreLinked, IsLaying, rows_before, starts_before}
use Rattle.static_digraph.proofs.rows.rows_by.Given as goal

abbrev pub invariant-loop-arc : goal.invariant-loop-arc
invariant-loop-arc l = record {
  inside : l.node < l.nodes;
  links : AreLinked l.nodes (length l.ends) (at 0 l.ends) l.first.items l.next.items 0;
  starts : l.start.items ≡ starts_before (at 0 l.ends) (length l.ends) (l.node + 1);
  laying : IsLaying l.nodes (length l.ends) (at 0 l.ends) (at 0
      l.next.items) l.node l.arc l.arcs.items;
}

abbrev pub decreases-loop-arc : goal.decreases-loop-arc
decreases-loop-arc l = l.count - l.arc

abbrev pub invariant-loop-node : goal.invariant-loop-node
invariant-loop-node l = record {
  below : l.node ≤ l.nodes;
  links : AreLinked l.nodes (length l.ends) (at 0 l.ends) l.first.items l.next.items 0;
  starts : l.start.items ≡ starts_before (at 0 l.ends) (length l.ends) l.node;
  laid : l.arcs.items ≡ rows_before (at 0 l.ends) (length l.ends) l.node;
}

abbrev pub decreases-loop-node : goal.decreases-loop-node
decreases-loop-node l = l.nodes - l.node
