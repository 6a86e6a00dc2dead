use Rattle.std.proofs.Common.{◌-◌, ◌≡◌, ◌≤◌}
use Rattle.static_digraph.specs.Told.{nodes_told}
use Rattle.static_digraph.proofs.told.node_facts.Given as goal

abbrev pub invariant-loop-node : goal.invariant-loop-node
invariant-loop-node l = record {
  below : l.node ≤ l.count;
  told : l.facts.items ≡ nodes_told l.node;
}

abbrev pub decreases-loop-node : goal.decreases-loop-node
decreases-loop-node l = l.count - l.node
