use Rattle.std.proofs.Common.{◌≡◌, ◌<◌, ◌≤◌, ◌-◌, ℕ, not}
use Rattle.static_digraph.specs.Fixed.{graph_of}
use Rattle.pair_match.specs.Facing.{flags}
use Rattle.query_tests.proofs.pairings.is_two_sided.Given as goal

abbrev pub invariant-on : goal.invariant-on
invariant-on l = record {
  within : l.arc ≤ l.count;
  sided : (k : ℕ) → k < l.arc → flags l.left ((graph_of l.g).to k)
      ≡ not (flags l.left ((graph_of l.g).from k));
}

abbrev pub decreases-on : goal.decreases-on
decreases-on l = l.count - l.arc
