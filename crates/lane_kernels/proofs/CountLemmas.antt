-- Counts of bools.
use Rattle.std.proofs.Common.{◌≡◌, ℕ, suc, ◌+◌, ◌<◌, ◌≤◌, Bool, true, false, cond, if◌then◌else◌}
use Rattle.std.proofs.Common.{not, nat_eq, List, [], ◌∷◌, length, drop, drop-cons, get_or, refl, ap}
use Rattle.std.proofs.Common.{◌∙◌, arith}
use Rattle.std.specs.Simd.Lanes.{top}
use mir.Val.{bool_byte}
use Rattle.lane_kernels.specs.Counts.{truths}

-- what a lane says of a bool
abbrev pub says : Bool → Bool
says b = top 7 (cond (not (nat_eq (bool_byte b) 0)) 255 0)

same : (b : Bool) → says b ≡ b
same true = refl
same false = refl

pub says_is : says ≡ (λ b. b)
says_is = λ k b. same b k

pub truths-front : (vs : List Bool) (i j : ℕ) → j ≡ i + 1 → i < length vs
    → truths (drop i vs) ≡ (if get_or vs i false then 1 else 0) + truths (drop j vs)
truths-front vs i j q l = let e : suc i ≡ j =
    omega (arith, q) in ap truths
    (drop-cons vs i false l ∙ ap (λ n. get_or vs i false ∷ drop n vs) e)

pub truths-eight : (vs : List Bool) (i : ℕ) → i + 8 ≤ length vs
    → truths (drop i vs)
    ≡ truths (get_or vs i false ∷ get_or vs (i + 1) false ∷ get_or vs (i + 2) false ∷ get_or vs
    (i + 3) false ∷ get_or vs (i + 4) false ∷ get_or vs (i + 5) false ∷ get_or vs (i + 6) false ∷
    get_or vs (i + 7) false ∷ []) + truths (drop (i + 8) vs)
truths-eight vs i l =
    let a = truths-front vs i (i + 1) refl (omega (arith, l)) in
    let b = truths-front vs (i + 1) (i + 2) (omega arith) (omega (arith, l)) in
    let c = truths-front vs (i + 2) (i + 3) (omega arith) (omega (arith, l)) in
    let d = truths-front vs (i + 3) (i + 4) (omega arith) (omega (arith, l)) in
    let e = truths-front vs (i + 4) (i + 5) (omega arith) (omega (arith, l)) in
    let f = truths-front vs (i + 5) (i + 6) (omega arith) (omega (arith, l)) in
    let g = truths-front vs (i + 6) (i + 7) (omega arith) (omega (arith, l)) in
    let h = truths-front vs (i + 7) (i + 8) (omega arith) (omega (arith, l)) in
    omega (arith, a, b, c, d, e, f, g, h)

-- no more than there are
pub truths-few : (bs : List Bool) → truths bs ≤ length bs
truths-few [] = omega arith
truths-few (true ∷ bs) = let r = truths-few bs in omega (arith, r)
truths-few (false ∷ bs) = let r = truths-few bs in omega (arith, r)
