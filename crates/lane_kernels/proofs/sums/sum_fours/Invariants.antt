use Rattle.std.proofs.Common.{◌≡◌, ◌+◌, ◌≤◌, ◌-◌, ◌*◌, pos, ◌+ℤ◌, length, drop}
use Rattle.std.specs.Simd.Lanes.{sum_l}
use Rattle.lane_kernels.specs.Sums.{total_of}
use Rattle.lane_kernels.proofs.sums.sum_fours.Given as goal

abbrev pub invariant-loop-at : goal.invariant-loop-at
invariant-loop-at l = record {
  within : l.at ≤ length l.values;
  low_lanes : length l.low ≡ 4;
  high_lanes : length l.high ≡ 4;
  low_small : sum_l l.low ≤ l.at * 4294967295;
  high_small : sum_l l.high ≤ l.at * 4294967295;
  summed : pos (sum_l l.low + 4294967296 * sum_l l.high) +ℤ total_of (drop l.at l.values)
      ≡ total_of l.values +ℤ pos (l.at * 9223372036854775808);
}

abbrev pub decreases-loop-at : goal.decreases-loop-at
decreases-loop-at l = length l.values - l.at
