-- One part more of a sum.
use Rattle.std.proofs.Common.{◌≡◌, ℕ, zero, suc, ◌+◌, ◌<◌, ◌^◌, Bool}
use Rattle.std.proofs.Common.{cond, ℤ, pos}
use Rattle.std.proofs.Common.{negsuc, neg_ℤ, ◌+ℤ◌, ◌*ℤ◌, ◌≤ℤ◌, List, [], ◌∷◌, length}
use Rattle.std.proofs.Common.{take}
use Rattle.std.proofs.Common.{ap, ◌∙◌, arith}
use Rattle.std.proofs.Math.IntN.{*ℤ_comm}
use Rattle.std.proofs.lemmas.Int.{ints}
use Rattle.plain_certificates.proofs.Products.{mul_le, neg-mul}
use Rattle.plain_certificates.specs.Numbered.{sum_to, sum_where}
use Rattle.plain_certificates.specs.Tables.{at}
use Rattle.plain_certificates.specs.Walks.{along}
use Rattle.task_bounds.specs.Given.{IsValue}

pub sum_to-next : (k : ℕ) (f : ℕ → ℤ) → sum_to (k + 1) f ≡ sum_to k f +ℤ f k
sum_to-next k f = let e : k + 1 ≡ suc k = omega arith in ap (λ j. sum_to j f) e

pub sum_where-next : (k : ℕ) (chosen : ℕ → Bool) (f : ℕ → ℤ)
    → sum_where (k + 1) chosen f ≡ sum_where k chosen f +ℤ cond (chosen k) (f k) (pos 0)
sum_where-next k chosen f = sum_to-next k (λ j. cond (chosen j) (f j) (pos 0))

pub along-next : (f : ℕ → ℤ) (xs : List ℕ) (k : ℕ) → k < length xs
    → along f (take (k + 1) xs) ≡ along f (take k xs) +ℤ f (at 0 xs k)
along-next f xs k l =
    let e : k + 1 ≡ suc k = omega arith in
    ap (λ j. along f (take j xs)) e ∙ step xs k l
  where
    step : (ys : List ℕ) (j : ℕ) → j < length ys
        → along f (take (suc j) ys) ≡ along f (take j ys) +ℤ f (at 0 ys j)
    step [] j l = absurd (omega (arith, l))
    step (y ∷ ys) zero l = omega (arith, ints)
    step (y ∷ ys) (suc j) l =
        let rest = step ys j (omega (arith, l)) in omega (arith, ints, rest)

-- a product of a value and a number of 64 bits
pub product_small : (c f : ℤ) → IsValue c → neg_ℤ (pos (2 ^ 63)) ≤ℤ f → f ≤ℤ pos (2 ^ 63)
    → (neg_ℤ (pos (2 ^ 99)) ≤ℤ (c *ℤ f)) × ((c *ℤ f) ≤ℤ pos (2 ^ 99))
product_small (pos n) f value low high =
    let up = value.1 in
    let not_neg : pos 0 ≤ℤ pos n = omega (arith, ints) in
    let a = mul_le (pos n) f (pos (2 ^ 63)) not_neg high in
    let b = mul_le (pos n) (neg_ℤ (pos (2 ^ 63))) f not_neg low in
    let d = *ℤ_comm (pos n) (pos (2 ^ 63)) in
    let e = *ℤ_comm (pos n) (neg_ℤ (pos (2 ^ 63))) ∙ neg-mul (pos (2 ^ 63)) (pos n) in
    let m = mul_le (pos (2 ^ 63)) (pos n) (pos (2 ^ 36)) (omega (arith, ints)) up in
    (omega (arith, ints, b, e, m), omega (arith, ints, a, d, m))
product_small (negsuc n) f value low high =
    let down = value.0 in
    let c = negsuc n in
    let p = neg_ℤ c in
    let not_neg : pos 0 ≤ℤ p = omega (arith, ints) in
    let a = mul_le p f (pos (2 ^ 63)) not_neg high in
    let b = mul_le p (neg_ℤ (pos (2 ^ 63))) f not_neg low in
    let t = neg-mul c f in
    let d = *ℤ_comm p (pos (2 ^ 63)) in
    let e = *ℤ_comm p (neg_ℤ (pos (2 ^ 63))) ∙ neg-mul (pos (2 ^ 63)) p in
    let m = mul_le (pos (2 ^ 63)) p (pos (2 ^ 36)) (omega (arith, ints)) (omega (arith, ints, down))
    in
    (omega (arith, ints, a, d, m, t), omega (arith, ints, b, e, m, t))
