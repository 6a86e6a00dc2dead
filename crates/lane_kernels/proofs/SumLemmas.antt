-- Sums of ints.
use Rattle.std.proofs.Common.{◌≡◌, ℕ, suc, ◌+◌, ◌<◌, ◌≤◌, ℤ, pos, ◌+ℤ◌, List, ◌∷◌, length, drop}
use Rattle.std.proofs.Common.{drop-cons, get_or, refl, ap, ◌∙◌, arith}
use Rattle.std.proofs.lemmas.Int.{ints}
use Rattle.lane_kernels.specs.Sums.{total_of}

-- the first of the values that are left
pub total-front : (vs : List ℤ) (i j : ℕ) → j ≡ i + 1 → i < length vs
    → total_of (drop i vs) ≡ get_or vs i (pos 0) +ℤ total_of (drop j vs)
total-front vs i j q l =
    let e : suc i ≡ j = omega (arith, q) in
    ap total_of (drop-cons vs i (pos 0) l ∙ ap (λ n. get_or vs i (pos 0) ∷ drop n vs) e)

-- the first four of them
pub total-four : (vs : List ℤ) (i : ℕ) → i + 4 ≤ length vs
    → total_of (drop i vs)
    ≡ get_or vs i (pos 0) +ℤ (get_or vs (i + 1) (pos 0) +ℤ (get_or vs (i + 2) (pos 0)
    +ℤ (get_or vs (i + 3) (pos 0) +ℤ total_of (drop (i + 4) vs))))
total-four vs i l =
    let a = total-front vs i (i + 1) refl (omega (arith, l)) in
    let b = total-front vs (i + 1) (i + 2) (omega arith) (omega (arith, l)) in
    let c = total-front vs (i + 2) (i + 3) (omega arith) (omega (arith, l)) in
    let d = total-front vs (i + 3) (i + 4) (omega arith) (omega (arith, l)) in
    omega (arith, ints, a, b, c, d)
