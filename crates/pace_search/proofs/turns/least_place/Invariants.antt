use Rattle.std.proofs.Common.{◌-◌, ◌≤◌, length}
use Rattle.pace_search.specs.Turns.{IsLeastOf}
use Rattle.pace_search.proofs.turns.least_place.Given as goal

abbrev pub invariant-loop-place : goal.invariant-loop-place
invariant-loop-place l = record {
  below : l.place ≤ length l.numbers;
  least : IsLeastOf l.numbers l.place l.least;
}

abbrev pub decreases-loop-place : goal.decreases-loop-place
decreases-loop-place l = length l.numbers - l.place
