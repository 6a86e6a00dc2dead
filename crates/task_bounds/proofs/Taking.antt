-- The lower bound of one arc more is taken off what its ends have to send.
use Rattle.std.proofs.Common.{◌≡◌, inl, inr, ℕ, suc, ◌+◌, ◌<◌, ◌≤◌, ◌^◌, Bool, true, false, cond}
use Rattle.std.proofs.Common.{eqb, ℤ}
use Rattle.std.proofs.Common.{to_z, of_z, w64}
use Rattle.std.proofs.Common.{pos, neg_ℤ, ◌+ℤ◌, ◌≤ℤ◌, List, length, ap, ◌∙◌, refl, arith}
use Rattle.std.proofs.Math.ListN.{set, length-set}
use Rattle.std.proofs.lemmas.Int.{ints}
use Rattle.std.proofs.lemmas.Bool.Decides.{eqb_tells}
use Rattle.plain_certificates.proofs.Tables.{at-set}
use Rattle.plain_certificates.specs.Numbered.{Numbered, EndsAreNodes}
use Rattle.plain_certificates.specs.Tables.{at}
use Rattle.task_bounds.proofs.Filled.{added_at, set_here, set_other}
use Rattle.task_bounds.proofs.Weighing.{weight_most}
use Rattle.task_bounds.specs.Given.{IsValue}
use Rattle.task_bounds.specs.Excess.{first_arcs, IsTaken}
use Rattle.task_bounds.specs.Excess.{AreLight}

cond-neg : (b : Bool) (x : ℤ) → cond b (neg_ℤ x) (pos 0) ≡ neg_ℤ (cond b x (pos 0))
cond-neg true x = refl
cond-neg false x = omega (arith, ints)

cond-small : (b : Bool) (x : ℤ) → IsValue x
    → (neg_ℤ (cond b (pos (2 ^ 36)) (pos 0)) ≤ℤ cond b x (pos 0))
    × (cond b x (pos 0) ≤ℤ cond b (pos (2 ^ 36)) (pos 0))
cond-small true x small = small
cond-small false x small = (omega (arith, ints), omega (arith, ints))

pub taken_step : (g : Numbered) (lower was is : ℕ → ℤ) (k : ℕ) → IsValue (lower k)
    → IsTaken (first_arcs g k) lower was is
    → (next : ℕ → ℤ) → ((v : ℕ) → next v ≡ (is v +ℤ cond (eqb (g.from k) v) (neg_ℤ (lower k))
    (pos 0))
    +ℤ cond (eqb (g.to k) v) (lower k) (pos 0))
    → IsTaken (first_arcs g (suc k)) lower was next
taken_step g lower was is k small taken next moved = record {
  each = λ v l.
      (let a = taken.each v l in
      let b = moved v in
      let c = cond-neg (eqb (g.from k) v) (lower k) in
      omega (arith, ints, a, b, c));
  light = λ v l.
      (let a = taken.light v l in
      let low = a.0 in
      let high = a.1 in
      let b = moved v in
      let c = cond-neg (eqb (g.from k) v) (lower k) in
      let from = cond-small (eqb (g.from k) v) (lower k) small in
      let to = cond-small (eqb (g.to k) v) (lower k) small in
      let from_low = from.0 in
      let from_high = from.1 in
      let to_low = to.0 in
      let to_high = to.1 in (
        omega (arith, ints, low, high, b, c, from_low, from_high, to_low, to_high),
        omega (arith, ints, low, high, b, c, from_low, from_high, to_low, to_high),
      ));
}

-- what two changes of a list come to
pub moved_twice : (xs : List ℤ) (a b : ℕ) (x z : ℤ) → a < length xs → b < length
    (set xs a (at (pos 0) xs a +ℤ x))
    → (v : ℕ) → at (pos 0) (set (set xs a (at (pos 0) xs a +ℤ x)) b
    (at (pos 0) (set xs a (at (pos 0) xs a +ℤ x)) b +ℤ z)) v
    ≡ (at (pos 0) xs v +ℤ cond (eqb a v) x (pos 0)) +ℤ cond (eqb b v) z (pos 0)
moved_twice xs a b x z la lb v =
    let ys = set xs a (at (pos 0) xs a +ℤ x) in
    let first = ap (λ f. f v) (at-set (pos 0) xs a (at (pos 0) xs a +ℤ x) la)
    ∙ added_at (at (pos 0) xs) a v x in
    let second = ap (λ f. f v) (at-set (pos 0) ys b (at (pos 0) ys b +ℤ z) lb)
    ∙ added_at (at (pos 0) ys) b v z in
    omega (arith, ints, first, second)

-- at the start nothing is taken
pub taken_none : (g : Numbered) (lower is : ℕ → ℤ) → ((v : ℕ) → v < g.nodes → IsValue (is v))
    → IsTaken (first_arcs g 0) lower is is
taken_none g lower is small = record {
  each = λ v l. omega (arith, ints);
  light = λ v l. (let a = small v l in let low = a.0 in let high = a.1 in
      (omega (arith, ints, low), omega (arith, ints, high)));
}

-- what a node has to send is small
pub excess_small : (g : Numbered) (k : ℕ) (is : ℕ → ℤ) (v : ℕ) → k ≤ 2 ^ 22
    → AreLight (first_arcs g k) is → v < g.nodes
    → (neg_ℤ (pos (2 ^ 60)) ≤ℤ is v) × (is v ≤ℤ pos (2 ^ 60))
excess_small g k is v few light l =
    let most = weight_most (first_arcs g k) v few in
    let a = light v l in
    let low = a.0 in
    let high = a.1 in
    (omega (arith, ints, most, low), omega (arith, ints, most, high))

-- also where one value was written
pub written_small : (xs : List ℤ) (a b : ℕ) (m : ℤ) → a < length xs
    → (neg_ℤ (pos (2 ^ 61)) ≤ℤ m) × (m ≤ℤ pos (2 ^ 61))
    → (neg_ℤ (pos (2 ^ 60)) ≤ℤ at (pos 0) xs b) × (at (pos 0) xs b ≤ℤ pos (2 ^ 60))
    → (neg_ℤ (pos (2 ^ 61)) ≤ℤ at (pos 0) (set xs a m) b)
    × (at (pos 0) (set xs a m) b ≤ℤ pos (2 ^ 61))
written_small xs a b m l new old = elim (eqb_tells b a) [
  | inl e ↦
      (let is = ap (at (pos 0) (set xs a m)) e.1 ∙ set_here (pos 0) xs a m l in
      let low = new.0 in
      let high = new.1 in
      (omega (arith, ints, is, low), omega (arith, ints, is, high)))
  | inr e ↦
      (let is = set_other (pos 0) xs a b m l e.0 in
      let low = old.0 in
      let high = old.1 in
      (omega (arith, ints, is, low), omega (arith, ints, is, high)))
]

pub taken_next : (g : Numbered) (lower was : ℕ → ℤ) (xs : List ℤ) (k : ℕ) (m p : ℤ)
    → EndsAreNodes g → k < g.arcs → length xs ≡ g.nodes → IsValue (lower k)
    → IsTaken (first_arcs g k) lower was (at (pos 0) xs)
    → m ≡ at (pos 0) xs (g.from k) +ℤ neg_ℤ (lower k)
    → p ≡ at (pos 0) (set xs (g.from k) m) (g.to k) +ℤ lower k
    → IsTaken (first_arcs g (k + 1)) lower was (at (pos 0) (set (set xs (g.from k) m) (g.to k) p))
taken_next g lower was xs k m p ends l all small taken m_is p_is =
    let from : g.from k < length xs = (let a = (ends k l).0 in omega (arith, a, all)) in
    let old = at (pos 0) xs (g.from k) +ℤ neg_ℤ (lower k) in
    let sized = length-set xs (g.from k) old in
    let to : g.to k < length (set xs (g.from k) old) =
    (let a = (ends k l).1 in omega (arith, a, all, sized)) in
    let e : k + 1 ≡ suc k = omega arith in
    rw (e, p_is, m_is)
    (taken_step g lower was (at (pos 0) xs) k small taken
    (at (pos 0) (set (set xs (g.from k) old) (g.to k)
    (at (pos 0) (set xs (g.from k) old) (g.to k) +ℤ lower k)))
    (moved_twice xs (g.from k) (g.to k) (neg_ℤ (lower k)) (lower k) from to))

-- ---- what is read and what is written, where the numbers stay small

pub kept_small : (r w : ℤ) → r ≡ w
    → (neg_ℤ (pos (2 ^ 61)) ≤ℤ w) × (w ≤ℤ pos (2 ^ 61))
    → (neg_ℤ (pos (2 ^ 61)) ≤ℤ to_z w64 (of_z w64 r))
    × (to_z w64 (of_z w64 r) ≤ℤ pos (2 ^ 61))
kept_small r w is small =
    let low = small.0 in
    let high = small.1 in
    (omega (arith, ints, is, low, high), omega (arith, ints, is, low, high))

pub kept_sum : (r w l p : ℤ) → r ≡ w → (neg_ℤ (pos (2 ^ 61)) ≤ℤ w) × (w ≤ℤ pos (2 ^ 61))
    → IsValue l → p ≡ to_z w64 (of_z w64 r) +ℤ to_z w64 (of_z w64 l)
    → to_z w64 (of_z w64 p) ≡ w +ℤ l
kept_sum r w l p is small value sum =
    let low = small.0 in
    let high = small.1 in
    let l_low = value.0 in
    let l_high = value.1 in
    omega (arith, ints, is, low, high, l_low, l_high, sum)

-- once all arcs were taken
pub taken_all : (g : Numbered) (lower was is : ℕ → ℤ) (k : ℕ) → k ≡ g.arcs
    → IsTaken (first_arcs g k) lower was is → IsTaken g lower was is
taken_all g lower was is k all taken =
    let whole : IsTaken (first_arcs g g.arcs) lower was is = rw all at taken in
    record { each = whole.each; light = whole.light }
