-- Reduced costs as lanes hold them.
use Rattle.std.proofs.Common.{◌≡◌, ℕ, ◌<◌, ℤ, pos, ◌+ℤ◌, ◌-ℤ◌, ◌≤ℤ◌, false, List, length, to_z}
use Rattle.std.proofs.Common.{of_z, w64, FitsSigned, subst, ◌∙◌, arith}
use Rattle.std.proofs.lemmas.Int.{ints, to_z-of_z}
use mir.Val.{SFits}
use lib.Signed.{lt_z}
use Rattle.lane_kernels.specs.Least.{IsModest, AllModest, value_at, reduced_at}
use Rattle.lane_kernels.proofs.MaskLemmas.{at_least}

-- a number as it is read from a lane
abbrev pub lane : ℤ → ℤ
lane x = to_z w64 (of_z w64 x)

read_lane : (x : ℤ) → IsModest x → lane x ≡ x
read_lane x m = to_z-of_z w64 x (omega (arith, ints, m))

-- the three numbers of a place
module _ (a b t : ℤ) (f : IsModest a) (g : IsModest b) (h : IsModest t) where
  lane_sum : lane a +ℤ lane b ≡ a +ℤ b
  lane_sum = let p = read_lane a f in let q = read_lane b g in omega (arith, ints, p, q)

  sum_fits : SFits w64 (lane a +ℤ lane b)
  sum_fits = let e = lane_sum in omega (arith, ints, e, f, g)

  lane_difference : lane (lane a +ℤ lane b) -ℤ lane t ≡ (a +ℤ b) -ℤ t
  lane_difference =
      let p = to_z-of_z w64 (lane a +ℤ lane b) sum_fits in
      let e = lane_sum in
      let q = read_lane t h in
      omega (arith, ints, p, q, e)

  difference_fits : SFits w64 (lane (lane a +ℤ lane b) -ℤ lane t)
  difference_fits = let e = lane_difference in omega (arith, ints, e, f, g, h)

  reduced_is : lane (lane (lane a +ℤ lane b) -ℤ lane t) ≡ (a +ℤ b) -ℤ t
  reduced_is = to_z-of_z w64 (lane (lane a +ℤ lane b) -ℤ lane t) difference_fits ∙ lane_difference

  not_below : (best : ℤ) → FitsSigned w64 best
      → lt_z (lane (lane (lane a +ℤ lane b) -ℤ lane t)) (lane best) ≡ false
      → best ≤ℤ ((a +ℤ b) -ℤ t)
  not_below best k l =
      subst (λ x. best ≤ℤ x) lane_difference
      (at_least best (lane (lane a +ℤ lane b) -ℤ lane t) k difference_fits l)

-- the same by place
module _ (costs from to : List ℤ) (e : (length from ≡ length costs) × (length to ≡ length costs))
    (m : AllModest costs × (AllModest from × AllModest to)) (k : ℕ) (l : k < length costs) where
  cost : IsModest (value_at costs k)
  cost = m.0 k (pos 0) l

  start : IsModest (value_at from k)
  start = m.1.0 k (pos 0) (omega (arith, l, e))

  end : IsModest (value_at to k)
  end = m.1.1 k (pos 0) (omega (arith, l, e))

  -- what its lane has before the result fits
  abbrev pub lane_of_sum : ℤ
  lane_of_sum = lane (value_at costs k) +ℤ lane (value_at from k)

  abbrev pub lane_of_difference : ℤ
  lane_of_difference = lane lane_of_sum -ℤ lane (value_at to k)

  pub sum_fits_at : SFits w64 lane_of_sum
  sum_fits_at = sum_fits (value_at costs k) (value_at from k) (value_at to k) cost start end

  pub difference_fits_at : SFits w64 lane_of_difference
  difference_fits_at =
      difference_fits (value_at costs k) (value_at from k) (value_at to k) cost start end

  pub reduced_is_at : lane lane_of_difference ≡ reduced_at costs from to k
  reduced_is_at = reduced_is (value_at costs k) (value_at from k) (value_at to k) cost start end

  pub not_below_at : (best : ℤ) → FitsSigned w64 best
      → lt_z (lane lane_of_difference) (lane best) ≡ false → best ≤ℤ reduced_at costs from to k
  not_below_at = not_below (value_at costs k) (value_at from k) (value_at to k) cost start end
