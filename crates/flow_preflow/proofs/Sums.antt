-- Sums of flows, an arc at a time.
use Rattle.std.proofs.Common.{◌≡◌, ℕ, zero, suc, ◌+◌, ◌*◌, ◌<◌, ◌≤◌, ◌^◌, Bool, true, false, cond}
use Rattle.std.proofs.Common.{pos, ◌≤ℤ◌, ◌<ℤ◌, List, length, All, refl, ap, arith}
use Rattle.std.proofs.lemmas.Int.{ints}
use Rattle.plain_certificates.specs.Numbered.{sum_to}
use Rattle.plain_certificates.specs.Rooms.{as_flow}
use Rattle.plain_certificates.specs.Tables.{at}

part_is : (b : Bool) (x : ℕ) → pos (cond b x 0) ≡ cond b (pos x) (pos 0)
part_is true x = refl
part_is false x = refl

pub part_low : (b : Bool) (x : ℕ) → cond b x 0 ≤ x
part_low true x = omega arith
part_low false x = omega arith

-- one arc more
pub sum_more : (n : ℕ) (test : ℕ → Bool) (f : ℕ → ℕ) (x : ℕ)
    → pos x ≡ sum_to n (λ k. cond (test k) (pos (f k)) (pos 0))
    → pos (x + cond (test n) (f n) 0) ≡ sum_to (n + 1) (λ k. cond (test k) (pos (f k)) (pos 0))
sum_more n test f x was =
    let on : n + 1 ≡ suc n = omega arith in
    let is = ap (λ m. sum_to m (λ k. cond (test k) (pos (f k)) (pos 0))) on in
    let here = part_is (test n) (f n) in
    omega (arith, ints, was, is, here)

sum_small : (n : ℕ) (f : ℕ → ℕ) → ((k : ℕ) → k < n → f k ≤ 2 ^ 36)
    → sum_to n (as_flow f) ≤ℤ pos (n * 2 ^ 36)
sum_small zero f h = omega (arith, ints)
sum_small (suc n) f h =
    let below = sum_small n f (λ k l. h k (omega (arith, l))) in
    let last = h n (omega arith) in
    omega (arith, ints, below, last)

-- all arcs together carry less than the engine allows
pub light : (cap : List ℕ) (n : ℕ) → length cap ≡ n → n ≤ 4194304 → All (λ c. c ≤ 2 ^ 36) cap
    → sum_to n (as_flow (at 0 cap)) <ℤ pos (2 ^ 61)
light cap n size few high =
    let low = sum_small n (at 0 cap) (λ k l. high k 0 (omega (arith, size, l))) in
    omega (arith, ints, low, few)
