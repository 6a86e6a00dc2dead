use Rattle.std.proofs.Common.{◌≤◌, ◌-◌, ◌≤ℤ◌, length, take, All}
use Rattle.query_tests.proofs.tasks.are_within.Given as goal

abbrev pub invariant-on : goal.invariant-on
invariant-on l = record {
  within : l.at ≤ length l.fn.lengths;
  low : All (λ x. l.fn.low ≤ℤ x) (take l.at l.fn.lengths);
  high : All (λ x. x ≤ℤ l.fn.high) (take l.at l.fn.lengths);
}

abbrev pub decreases-on : goal.decreases-on
decreases-on l = length l.fn.lengths - l.at
