use Rattle.std.proofs.Common.{length, ◌-◌, ◌≤◌}
use Rattle.view_numbers.specs.Breaches.{is_crossed, NoneBefore}
use Rattle.view_numbers.proofs.checks.first_crossed.Given as goal

abbrev pub invariant-loop-place : goal.invariant-loop-place
invariant-loop-place l = record {
  inside : l.place ≤ length l.lower;
  none : NoneBefore l.place (is_crossed l.lower l.upper);
}

abbrev pub decreases-loop-place : goal.decreases-loop-place
decreases-loop-place l = length l.lower - l.place
