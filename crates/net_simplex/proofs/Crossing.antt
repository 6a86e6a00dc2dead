-- The arcs that cross a set, and what an added arc carries.
use Rattle.std.proofs.Common.{◌≡◌, inl, inr, ℕ, ◌<◌, Bool}
use Rattle.std.proofs.Common.{true, false, ◌&&◌, not, cond, eqb, ℤ, pos, neg_ℤ, ◌≤ℤ◌}
use Rattle.std.proofs.Common.{◌<ℤ◌}
use Rattle.std.proofs.Common.{◌∙◌, refl, arith}
use Rattle.std.proofs.lemmas.Int.{ints}
use Rattle.std.proofs.lemmas.Bool.Decides.{nat_tests}
use Rattle.plain_certificates.proofs.Sums.{sum_to-same, sum_to-neg, part-le}
use Rattle.plain_certificates.specs.Numbered.{sum_where}
use Rattle.plain_certificates.specs.Rooms.{Joins}
use Rattle.pivot_flow.specs.Tree.{Task}

-- ---- choices

pub leaves_by : (b d : Bool) → (b && not d) ≡ true → (b ≡ true) × (d ≡ false)
leaves_by true true h = absurd cc
leaves_by true false h = (refl, refl)
leaves_by false d h = absurd cc

pub enters_by : (b d : Bool) → (not b && d) ≡ true → (b ≡ false) × (d ≡ true)
enters_by true d h = absurd cc
enters_by false true h = (refl, refl)
enters_by false false h = absurd cc

cond-neg : (b : Bool) (x : ℤ) → cond b (neg_ℤ x) (pos 0) ≡ neg_ℤ (cond b x (pos 0))
cond-neg true x = refl
cond-neg false x = omega (arith, ints)

pub sum_where-neg : (n : ℕ) (chosen : ℕ → Bool) (x : ℕ → ℤ)
    → sum_where n chosen (λ k. neg_ℤ (x k)) ≡ neg_ℤ (sum_where n chosen x)
sum_where-neg n chosen x =
    sum_to-same n (λ k. cond (chosen k) (neg_ℤ (x k)) (pos 0))
    (λ k. neg_ℤ (cond (chosen k) (x k) (pos 0))) (λ k _. cond-neg (chosen k) (x k))
    ∙ sum_to-neg n (λ k. cond (chosen k) (x k) (pos 0))

cond-low : (b : Bool) (n : ℕ) → pos 0 ≤ℤ cond b (pos n) (pos 0)
cond-low true n = omega (arith, ints)
cond-low false n = omega (arith, ints)

-- numbers of which a chosen one is above 0
pub some_where : (n k : ℕ) (chosen : ℕ → Bool) (x : ℕ → ℕ) → k < n → chosen k ≡ true → 0 < x k
    → pos 0 <ℤ sum_where n chosen (λ j. pos (x j))
some_where n k chosen x l on some =
    let part = part-le n k (λ j. cond (chosen j) (pos (x j)) (pos 0)) l
    (λ j _. cond-low (chosen j) (x j)) in
    let here : cond (chosen k) (pos (x k)) (pos 0) ≡ pos (x k) = rw on refl in
    omega (arith, ints, part, here, some)

-- ---- an added arc

pub carried_out : (t : Task) (k v n x : ℕ) → v < n → Joins t.net k v n → (t.net.from k ≡ n → x ≡ 0)
    → cond (eqb (t.net.from k) v) (pos x) (neg_ℤ (pos x)) ≡ pos x
carried_out t k v n x l (inl j) none =
    let e : eqb (t.net.from k) v ≡ true = (let is = j.0 in grind (arith, nat_tests, is)) in rw e
    refl
carried_out t k v n x l (inr j) none =
    let e : eqb (t.net.from k) v ≡ false =
    (let is = j.0 in grind (arith, nat_tests, is, l)) in
    let zero = none j.0 in
    rw e (omega (arith, ints, zero))

pub carried_in : (t : Task) (k v n x : ℕ) → v < n → Joins t.net k v n → (t.net.to k ≡ n → x ≡ 0)
    → cond (eqb (t.net.from k) v) (pos x) (neg_ℤ (pos x)) ≡ neg_ℤ (pos x)
carried_in t k v n x l (inl j) none =
    let e : eqb (t.net.from k) v ≡ true = (let is = j.0 in grind (arith, nat_tests, is)) in
    let zero = none j.1 in
    rw e (omega (arith, ints, zero))
carried_in t k v n x l (inr j) none =
    let e : eqb (t.net.from k) v ≡ false =
    (let is = j.0 in grind (arith, nat_tests, is, l)) in
    rw e refl
