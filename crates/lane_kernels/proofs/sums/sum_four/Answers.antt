use Rattle.std.proofs.Common.{◌≡◌, ◌+◌, ◌∙◌, w64, arith}
use Rattle.std.specs.Simd.Lanes.{sum_l}
use Rattle.std.proofs.lemmas.Simd.{sum_fits, fold-sum}
use Rattle.lane_kernels.proofs.sums.sum_four.Goals as goal

pub overflow_add-result : goal.overflow_add-result
overflow_add-result c = sum_fits w64 0 c.args.lanes (omega (arith, c.requires))

pub returns : goal.returns
returns c = let z : 0 + sum_l c.args.lanes ≡ sum_l c.args.lanes =
    omega arith in fold-sum 0 c.args.lanes ∙ z
