-- Masks of comparisons.
use Rattle.std.proofs.Common.{◌≡◌, ℕ, Bool, false, eqb, not, [], ◌∷◌, arith, ℤ, to_z, of_z, w64}
use Rattle.std.proofs.Common.{◌≤ℤ◌, FitsSigned}
use lib.Lanes.{mask_l}
use lib.Signed.{lt_z}
use Rattle.std.proofs.lemmas.Bool.Decides.{nat_tests}
use Rattle.std.proofs.lemmas.Int.{ints}

-- where no bit of a mask of four is set, no lane passes
pub none_of_four : (p q r s : Bool) → mask_l (p ∷ q ∷ r ∷ s ∷ []) ≡ 0 → (p ≡ false) × (q ≡ false)
    × (r ≡ false) × (s ≡ false)
none_of_four p q r s h = grind arith

pub is_zero : (n : ℕ) → not (eqb n 0) ≡ false → n ≡ 0
is_zero n h = grind (arith, nat_tests)

pub at_least : (best x : ℤ) → FitsSigned w64 best → FitsSigned w64 x
    → lt_z (to_z w64 (of_z w64 x)) (to_z w64 (of_z w64 best)) ≡ false → best ≤ℤ x
at_least best x b f h = grind (arith, ints, b, f)
