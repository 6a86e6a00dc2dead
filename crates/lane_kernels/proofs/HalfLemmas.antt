-- Halves of numbers, and their sums.
use Rattle.std.proofs.Common.{◌≡◌, ℕ, ◌+◌, ◌*◌, ◌<◌, ◌≤◌, ◌/◌, List, [], ◌∷◌, length, map, bit_and}
use Rattle.std.proofs.Common.{refl, ◌∙◌, arith}
use Rattle.std.specs.Simd.Lanes.{sum_l, Each1}
use Rattle.std.proofs.lemmas.List.{length-map}
use Rattle.std.proofs.lemmas.Nat.{and_mask}

-- the lower and the upper half of a number, as lanes have them
abbrev pub lower : ℕ → ℕ
lower x = bit_and x 4294967295

abbrev pub upper : ℕ → ℕ
upper x = x / 4294967296

lower-upper : (x : ℕ) → lower x + 4294967296 * upper x ≡ x
lower-upper x = let e = and_mask x 32 in omega (arith, e)

pub halves-sum : (xs : List ℕ) → sum_l (map lower xs) + 4294967296 * sum_l (map upper xs) ≡ sum_l xs
halves-sum [] = refl
halves-sum (x ∷ xs) = let e = lower-upper x in let r = halves-sum xs in omega (arith, e, r)

pub lower-small : (xs : List ℕ) → sum_l (map lower xs) ≤ 4294967295 * length xs
lower-small [] = omega arith
lower-small (x ∷ xs) = let e = and_mask x 32 in let r = lower-small xs in omega (arith, e, r)

pub upper-small : (xs : List ℕ) → Each1 (λ x. x < 18446744073709551616) xs
    → sum_l (map upper xs) ≤ 4294967295 * length xs
upper-small [] f = omega arith
upper-small (x ∷ xs) f = let l = f.0 in let r = upper-small xs f.1 in omega (arith, l, r)

-- the halves of four numbers
pub record Halved (xs ls us : List ℕ) : Type 0 where
  pub lanes : (length ls ≡ 4) × (length us ≡ 4)
  pub small : (sum_l ls ≤ 17179869180) × (sum_l us ≤ 17179869180)
  pub sum : sum_l ls + 4294967296 * sum_l us ≡ sum_l xs

pub halved : (xs : List ℕ) → length xs ≡ 4 → Each1 (λ x. x < 18446744073709551616) xs
    → Halved xs (map lower xs) (map upper xs)
halved xs four f =
    let l = lower-small xs in
    let u = upper-small xs f in
    record {
      lanes = (length-map xs lower ∙ four, length-map xs upper ∙ four);
      small = (omega (arith, l, four), omega (arith, u, four));
      sum = halves-sum xs;
    }
