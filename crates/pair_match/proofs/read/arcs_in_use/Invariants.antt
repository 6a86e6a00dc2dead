use Rattle.std.proofs.Common.{◌≡◌, ◌≤◌, ◌-◌, eqb, not, length, filter}
use Rattle.std.specs.List.{range_with_len}
use Rattle.plain_certificates.specs.Tables.{at}
use Rattle.pair_match.proofs.read.arcs_in_use.Given as goal

abbrev pub invariant-loop-k : goal.invariant-loop-k
invariant-loop-k l = record {
  below : l.k ≤ length l.flow;
  listed : l.arcs.items ≡ filter (λ j. not (eqb (at 0 l.flow j) 0)) (range_with_len 0 l.k);
}

abbrev pub decreases-loop-k : goal.decreases-loop-k
decreases-loop-k l = length l.flow - l.k
