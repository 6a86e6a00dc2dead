use Rattle.std.proofs.Common.{◌≤◌, ◌-◌, length}
use Rattle.lane_kernels.specs.Least.{IsFirstLeast, reduced_at, every_place}
use Rattle.lane_kernels.proofs.reduced.least_reduced.Given as goal

abbrev pub invariant-loop-at : goal.invariant-loop-at
invariant-loop-at l = record {
  within : l.at ≤ length l.costs;
  least : IsFirstLeast (reduced_at l.costs l.from_pi l.to_pi) every_place l.at l.best.0 l.best.1;
}

abbrev pub decreases-loop-at : goal.decreases-loop-at
decreases-loop-at l = length l.costs - l.at
