use Rattle.std.proofs.Common.{length, ◌-◌, ◌≤◌}
use Rattle.view_numbers.specs.Turned.{IsLeastOf}
use Rattle.view_numbers.proofs.cycles.least_place.Given as goal

abbrev pub invariant-loop-place : goal.invariant-loop-place
invariant-loop-place l = record {
  inside : l.place ≤ length l.cycle;
  least : IsLeastOf l.g l.cycle l.place l.least;
}

abbrev pub decreases-loop-place : goal.decreases-loop-place
decreases-loop-place l = length l.cycle - l.place
