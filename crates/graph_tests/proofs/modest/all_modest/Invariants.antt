use Rattle.std.proofs.Common.{ℕ, ℤ, ◌<◌, slice_index_or}
use Rattle.lane_kernels.specs.Least.{IsModest}
use Rattle.graph_tests.proofs.modest.all_modest.Given as goal

abbrev pub invariant-loop-value : goal.invariant-loop-value
invariant-loop-value l = (k : ℕ) (d : ℤ) → k < l.value-index
    → IsModest (slice_index_or l.values k d)
