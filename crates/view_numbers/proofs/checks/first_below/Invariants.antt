use Rattle.std.proofs.Common.{length, ◌-◌, ◌≤◌}
use Rattle.view_numbers.specs.Breaches.{is_under, NoneBefore}
use Rattle.view_numbers.proofs.checks.first_below.Given as goal

abbrev pub invariant-loop-place : goal.invariant-loop-place
invariant-loop-place l = record {
  inside : l.place ≤ length l.values;
  none : NoneBefore l.place (is_under l.values l.least);
}

abbrev pub decreases-loop-place : goal.decreases-loop-place
decreases-loop-place l = length l.values - l.place
