use Rattle.std.proofs.Common.{◌-◌, ◌≤◌}
use Rattle.static_digraph.specs.Fixed.{graph_of}
use Rattle.view_numbers.specs.Breaches.{NoneBefore}
use Rattle.view_numbers.specs.Turned.{is_one_sided}
use Rattle.view_numbers.proofs.cycles.first_one_sided.Given as goal

abbrev pub invariant-loop-arc : goal.invariant-loop-arc
invariant-loop-arc l = record {
  inside : l.arc ≤ (graph_of l.g).arcs;
  none : NoneBefore l.arc (is_one_sided (graph_of l.g) l.left);
}

abbrev pub decreases-loop-arc : goal.decreases-loop-arc
decreases-loop-arc l = l.count - l.arc
