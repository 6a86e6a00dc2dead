use Rattle.std.proofs.Common.{◌<◌, ◌≤◌, ◌-◌, ◌≤ℤ◌, ℕ, pos, length, get_or}
use Rattle.std.specs.Option.{option_copied}
use Rattle.task_bounds.specs.Given.{given}
use Rattle.query_tests.proofs.bounds.are_ordered.Given as goal

abbrev pub invariant-on : goal.invariant-on
invariant-on l = record {
  within : l.place ≤ length l.upper;
  ordered : (k : ℕ) → k < l.place
      → given (option_copied l.fn.lower) k ≤ℤ get_or l.upper k (pos 0);
}

abbrev pub decreases-on : goal.decreases-on
decreases-on l = length l.upper - l.place
