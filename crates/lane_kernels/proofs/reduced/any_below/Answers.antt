use Rattle.std.proofs.Common.{[], ◌∷◌, ℕ, ◌+◌, ◌<◌, length, of_z, to_z, w64, refl, arith}
use Rattle.std.proofs.lemmas.Simd.{bitmask_splat}
use lib.Signed.{lt_z}
use Rattle.lane_kernels.proofs.MaskLemmas.{none_of_four, is_zero}
use Rattle.lane_kernels.proofs.ReducedLemmas.{sum_fits_at, difference_fits_at, lane_of_difference}
use Rattle.lane_kernels.proofs.ReducedLemmas.{not_below_at}
use Rattle.lane_kernels.proofs.reduced.any_below.Goals as goal

pub overflow_add-reduced : goal.overflow_add-reduced
overflow_add-reduced c =
    let i = c.args.at in
    let fits = λ (k : ℕ) (l : k < length c.args.costs.now).
    sum_fits_at c.args.costs.now c.args.from_pi.now c.args.to_pi.now c.requires.lengths
    c.requires.small k l in
    rw c.four_at-cost.ensures (rw c.four_at-from.ensures (
      fits i (omega arith),
      (
        fits (i + 1) (omega arith),
        (fits (i + 2) (omega arith), (fits (i + 3) (omega arith), tt)),
      ),
    ))

pub overflow_sub-reduced : goal.overflow_sub-reduced
overflow_sub-reduced c =
    let i = c.args.at in
    let fits = λ (k : ℕ) (l : k < length c.args.costs.now).
    difference_fits_at c.args.costs.now c.args.from_pi.now c.args.to_pi.now c.requires.lengths
    c.requires.small k l in
    rw c.four_at-cost.ensures (rw c.four_at-from.ensures (rw c.four_at-to.ensures (
      fits i (omega arith),
      (
        fits (i + 1) (omega arith),
        (fits (i + 2) (omega arith), (fits (i + 3) (omega arith), tt)),
      ),
    )))

pub returns : goal.returns
returns c h =
    let i = c.args.at in
    let first : i < length c.args.costs.now = omega arith in
    let second : i + 1 < length c.args.costs.now = omega arith in
    let third : i + 2 < length c.args.costs.now = omega arith in
    let fourth : i + 3 < length c.args.costs.now = omega arith in
    let above = λ (k : ℕ) (l : k < length c.args.costs.now).
    not_below_at c.args.costs.now c.args.from_pi.now c.args.to_pi.now c.requires.lengths
    c.requires.small k l
    c.args.best c.ranges.best in
    let bits = λ (k : ℕ) (l : k < length c.args.costs.now).
    of_z w64 (lane_of_difference c.args.costs.now c.args.from_pi.now c.args.to_pi.now
    c.requires.lengths c.requires.small k l) in
    let lanes = bits i first ∷ bits (i + 1) second ∷ bits (i + 2) third ∷ bits (i + 3) fourth ∷
    [] in
    let e = bitmask_splat w64 (λ x y. lt_z (to_z w64 x) (to_z w64 y)) lanes 4 (of_z w64 c.args.best)
    refl (omega arith) in
    let g = rw (c.four_at-cost.ensures, c.four_at-from.ensures, c.four_at-to.ensures) at h in
    let zero = is_zero _ (rw e at g) in
    let f = none_of_four _ _ _ _ zero in
    (above i first f.0, above (i + 1) second f.1, above (i + 2) third f.2, above (i + 3) fourth f.3)
