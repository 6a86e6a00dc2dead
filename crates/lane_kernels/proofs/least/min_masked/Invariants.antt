use Rattle.std.proofs.Common.{◌≤◌, ◌-◌, length}
use Rattle.lane_kernels.specs.Least.{IsLeastLive}
use Rattle.lane_kernels.proofs.least.min_masked.Given as goal

abbrev pub invariant-loop-at : goal.invariant-loop-at
invariant-loop-at l = record {
  within : l.at ≤ length l.values;
  least : IsLeastLive l.values l.live l.at l.best;
}

abbrev pub decreases-loop-at : goal.decreases-loop-at
decreases-loop-at l = length l.values - l.at
