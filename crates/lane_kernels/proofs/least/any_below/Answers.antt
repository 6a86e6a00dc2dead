use Rattle.std.proofs.Common.{[], ◌∷◌, to_z, of_z, w64, refl, arith}
use Rattle.std.proofs.lemmas.Simd.{bitmask_splat}
use lib.Signed.{lt_z}
use Rattle.lane_kernels.proofs.MaskLemmas.{none_of_four, is_zero, at_least}
use Rattle.lane_kernels.proofs.least.any_below.Goals as goal

pub returns : goal.returns
returns c h =
    let lanes = of_z w64 c.args.first ∷ of_z w64 c.args.second ∷ of_z w64 c.args.third ∷ of_z w64
    c.args.fourth ∷ [] in
    let e = bitmask_splat w64 (λ a b. lt_z (to_z w64 a) (to_z w64 b)) lanes 4 (of_z w64 c.args.best)
    refl (omega arith) in
    let zero = is_zero _ (rw e at h) in
    let f = none_of_four _ _ _ _ zero in
    let b = c.ranges.best in (
      at_least c.args.best c.args.first b c.ranges.first f.0,
      at_least c.args.best c.args.second b c.ranges.second f.1,
      at_least c.args.best c.args.third b c.ranges.third f.2,
      at_least c.args.best c.args.fourth b c.ranges.fourth f.3,
    )
