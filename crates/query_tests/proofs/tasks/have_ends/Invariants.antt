use Rattle.std.proofs.Common.{◌≤◌, ◌-◌, length, take}
use Rattle.static_digraph.specs.Fixed.{HaveEnds}
use Rattle.query_tests.proofs.tasks.have_ends.Given as goal

abbrev pub invariant-on : goal.invariant-on
invariant-on l = record {
  within : l.at ≤ length l.fn.arcs;
  all : HaveEnds l.fn.nodes (take l.at l.fn.arcs);
}

abbrev pub decreases-on : goal.decreases-on
decreases-on l = length l.fn.arcs - l.at
