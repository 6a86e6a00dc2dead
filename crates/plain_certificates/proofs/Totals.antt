-- Sums of numbers without a sign: one part or two that change, and parts of a sum.
use Rattle.std.proofs.Common.{◌≡◌, ◌≢◌, inl, inr, ℕ, zero, suc, ◌+◌, ◌<◌, ◌≤◌, pos, refl}
use Rattle.std.proofs.Common.{sym, arith}
use Rattle.std.proofs.lemmas.Int.{ints}
use Rattle.std.proofs.lemmas.Bool.Decides.{eqb_tells}
use Rattle.plain_certificates.specs.Numbered.{sum_to}
use Rattle.plain_certificates.specs.Totals.{total_to}
use Rattle.plain_certificates.specs.Tables.{set_at}

pub total-same : (n : ℕ) (f g : ℕ → ℕ) → ((k : ℕ) → k < n → f k ≡ g k)
    → total_to n f ≡ total_to n g
total-same zero f g h = refl
total-same (suc n) f g h = rw (total-same n f g (λ k l. h k (omega arith)), h n (omega arith))

pub total-zero : (n : ℕ) (f : ℕ → ℕ) → ((k : ℕ) → k < n → f k ≡ 0) → total_to n f ≡ 0
total-zero zero f h = refl
total-zero (suc n) f h =
    let below = total-zero n f (λ k l. h k (omega arith)) in
    let last = h n (omega arith) in
    omega (arith, below, last)

pub total-le : (n : ℕ) (f g : ℕ → ℕ) → ((k : ℕ) → k < n → f k ≤ g k)
    → total_to n f ≤ total_to n g
total-le zero f g h = omega arith
total-le (suc n) f g h =
    let below = total-le n f g (λ k l. h k (omega arith)) in
    let last = h n (omega arith) in
    omega (arith, below, last)

-- as a sum of integers
pub total_is_sum : (n : ℕ) (f : ℕ → ℕ) → pos (total_to n f) ≡ sum_to n (λ k. pos (f k))
total_is_sum zero f = refl
total_is_sum (suc n) f = let below = total_is_sum n f in omega (arith, ints, below)

-- one part of a sum is another
pub total-one : (n u : ℕ) (f g : ℕ → ℕ) → u < n → ((k : ℕ) → k < n → k ≢ u → f k ≡ g k)
    → total_to n f + g u ≡ total_to n g + f u
total-one zero u f g l h = absurd (omega arith)
total-one (suc n) u f g l h =
    elim (eqb_tells n u) [
      | inl e ↦
          (let below = total-same n f g
          (λ k q. h k (omega arith) (let x = e.1 in omega (arith, x, q))) in
          rw (below, e.1) (omega arith))
      | inr e ↦
          (let below = total-one n u f g (let x = e.1 in omega (arith, x, l))
          (λ k q. h k (omega arith)) in
          let last = h n (omega arith) e.1 in
          omega (arith, below, last))
    ]

pub total-part : (n u : ℕ) (f : ℕ → ℕ) → u < n → f u ≤ total_to n f
total-part zero u f l = absurd (omega arith)
total-part (suc n) u f l =
    elim (eqb_tells n u) [
      | inl e ↦ rw e.1 (omega arith)
      | inr e ↦
          (let below =
          total-part n u f (let x = e.1 in omega (arith, x, l)) in omega (arith, below))
    ]

-- two parts of a sum are others
pub total-two : (n u v : ℕ) (f g : ℕ → ℕ) → u < n → v < n → u ≢ v
    → ((k : ℕ) → k < n → k ≢ u → k ≢ v → f k ≡ g k)
    → total_to n f + (g u + g v) ≡ total_to n g + (f u + f v)
total-two n u v f g lu lv ne h =
    let m = set_at g u (f u) in
    let first : total_to n f + m v ≡ total_to n m + f v = total-one n v f m lv
    (λ k l off. elim (eqb_tells k u) [
      | inl e ↦ rw (e.0, e.1)
      | inr e ↦ rw e.0 (h k l e.1 off)
    ]) in
    let second : total_to n m + g u ≡ total_to n g + m u = total-one n u m g lu
    (λ k l off. elim (eqb_tells k u) [ inl e ↦ absurd (off e.1) | inr e ↦ rw e.0 ]) in
    let a : m v ≡ g v = elim (eqb_tells v u) [ inl e ↦ absurd (ne (sym e.1)) | inr e ↦ rw e.0 ] in
    let b : m u ≡ f u = elim (eqb_tells u u) [ inl e ↦ rw e.0 | inr e ↦ absurd (e.1 refl) ] in
    omega (arith, first, second, a, b)

pub total-pair : (n u v : ℕ) (f : ℕ → ℕ) → u < n → v < n → u ≢ v → f u + f v ≤ total_to n f
total-pair n u v f lu lv ne =
    let g = set_at f u 0 in
    let one = total-one n u f g lu
    (λ k l off. elim (eqb_tells k u) [ inl e ↦ absurd (off e.1) | inr e ↦ rw e.0 ]) in
    let part = total-part n v g lv in
    let a : g v ≡ f v = elim (eqb_tells v u) [ inl e ↦ absurd (ne (sym e.1)) | inr e ↦ rw e.0 ] in
    let b : g u ≡ 0 = elim (eqb_tells u u) [ inl e ↦ rw e.0 | inr e ↦ absurd (e.1 refl) ] in
    omega (arith, one, part, a, b)

-- a sum that is 0 has 0 in each place
pub total-none : (n : ℕ) (f : ℕ → ℕ) → total_to n f ≡ 0 → (k : ℕ) → k < n → f k ≡ 0
total-none n f h k l = let part = total-part n k f l in omega (arith, part, h)
