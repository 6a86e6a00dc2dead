use Rattle.std.proofs.Common.{◌+◌, ◌∙◌, sym, w64}
use Rattle.std.proofs.lemmas.Simd.{adds_fit, length-zip2, sum-zip2}
use Rattle.lane_kernels.proofs.sums.add_four.Goals as goal

pub overflow_add-result : goal.overflow_add-result
overflow_add-result c = adds_fit w64 c.args.sums c.args.lanes c.requires.small

pub returns : goal.returns
returns c =
    let same = c.requires.lanes.0 ∙ sym c.requires.lanes.1 in
    record {
      lanes = length-zip2 (λ a b. a + b) c.args.sums c.args.lanes same ∙ c.requires.lanes.0;
      sum = sum-zip2 c.args.sums c.args.lanes same;
    }
