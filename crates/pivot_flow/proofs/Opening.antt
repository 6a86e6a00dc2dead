-- No arc comes to stand at an open bound.
use Rattle.std.proofs.Common.{◌≡◌, ◌⊎◌, inl, inr, ℕ, zero, suc, ◌+◌, ◌-◌, ◌<◌, ◌≤◌, ◌^◌, Bool, true}
use Rattle.std.proofs.Common.{false, eqb, cond, ℤ, pos, neg_ℤ, ◌≤ℤ◌, ap, arith}
use Rattle.std.proofs.lemmas.Int.{ints}
use Rattle.std.proofs.lemmas.Bool.Decides.{eqb_tells}
use Rattle.plain_certificates.specs.Numbered.{EndsAreNodes, sum_to}
use Rattle.plain_certificates.specs.Tables.{set_at}
use Rattle.pivot_flow.proofs.Flowing.{flow_small}
use Rattle.pivot_flow.specs.Enter.{entered}
use Rattle.pivot_flow.specs.Open.{IsOpenFree, IsRoomy, most_of}
use Rattle.pivot_flow.specs.Send.{IsSent}
use Rattle.pivot_flow.specs.Tree.{IsHeld, IsHung, IsTreeArc, Task, Tree}

-- ---- no arc stands at an open bound
sum_not_neg : (n : ℕ) (g : ℕ → ℤ) → ((k : ℕ) → k < n → pos 0 ≤ℤ g k) → pos 0 ≤ℤ sum_to n g
sum_not_neg zero g h = omega (arith, ints)
sum_not_neg (suc n) g h = let a = sum_not_neg n g (λ k l. h k (omega (arith, l))) in let b =
    h n (omega arith) in omega (arith, ints, a, b)

sum_has : (n k : ℕ) (c : ℕ) → k < n → pos c ≤ℤ sum_to n (λ j. pos c)
sum_has zero k c l = absurd (omega (arith, l))
sum_has (suc n) k c l = let a = sum_not_neg n (λ j. pos c) (λ j q. omega (arith, ints)) in
    omega (arith, ints, a)

pub flows_small : (t : Task) (supply : ℕ → ℤ) (h : Tree) (f : ℕ → ℕ) (size : ℕ → ℤ) (finite : ℕ)
    → IsHung t h → IsHeld t supply h f → EndsAreNodes t.net →
    ((v : ℕ) → v < t.net.nodes → (neg_ℤ (size v) ≤ℤ supply v) × (supply v ≤ℤ size v))
    → IsOpenFree t f finite → (k : ℕ) → k < t.net.arcs → pos (f k) ≤ℤ most_of t size finite
flows_small t supply h f size finite s held shape sized free k l =
    let small : (k : ℕ) → k < t.net.arcs → (pos (f k) ≤ℤ pos finite) ⊎ IsTreeArc t h k =
    λ k l. elim (held.rest k l) [
      | inl (inl z) ↦ inl (omega (arith, ints, z))
      | inl (inr z) ↦ inl (let b = free.full k l z in omega (arith, ints, z, b))
      | inr z ↦ inr z
    ] in
    elim (small k l) [
      | inl z ↦
          (let a = sum_not_neg t.net.nodes size
          (λ v q. (let b = sized v q in let lo = b.0 in let hi = b.1 in
          omega (arith, ints, lo, hi))) in
          let b = sum_has t.net.arcs k finite l in
          omega (arith, ints, z, a, b))
      | inr z ↦
          (let a = flow_small t supply h f size (pos finite) s held shape (omega (arith, ints))
          sized small z.0 z.1.0 in rw (← z.1.1) a)
    ]

moved_to : (b : Bool) (x g c s : ℕ) → x ≤ c → g ≤ c → cond b g (c - g) + s ≡ cond b x (c - x)
    → g ≤ x + s
moved_to true x g c s a d e = omega (arith, e)
moved_to false x g c s a d e = omega (arith, e, a, d)

moved_from : (b : Bool) (x g c s : ℕ) → x ≤ c → g ≤ c → cond b (c - g) g + s ≡ cond b (c - x) x
    → g ≤ x + s
moved_from true x g c s a d e = omega (arith, e, a, d)
moved_from false x g c s a d e = omega (arith, e)

-- a pivot adds at most its step to a flow
pub sent_most : (t : Task) (h : Tree) (f g : ℕ → ℕ) (i j w step : ℕ) → IsHung t h
    → ((k : ℕ) → k < t.net.arcs → f k ≤ t.cap k) → IsSent t h f g i j w w step → (k : ℕ)
    → k < t.net.arcs → g k ≤ f k + step
sent_most t h f g i j w step s within st k l =
    elim (st.rest k l) [
      | inl e ↦ omega (arith, e)
      | inr q ↦
          (let v = q.0 in
          let a = within (h.arc v) (s.arc v q.1.0) in
          let b = st.within (h.arc v) (s.arc v q.1.0) in
          rw (← q.1.1)
          (elim (st.each v q.1.0) [
            | inl (inl z) ↦ moved_to (eqb (t.net.from (h.arc v)) v) (f (h.arc v)) (g (h.arc v))
                (t.cap (h.arc v)) step a b (st.before v q.1.0 z.0 z.1).less
            | inl (inr z) ↦ moved_from (eqb (t.net.from (h.arc v)) v) (f (h.arc v)) (g (h.arc v))
                (t.cap (h.arc v)) step a b (st.after v q.1.0 z.0 z.1).less
            | inr z ↦ omega (arith, z)
          ]))
    ]

entered_most : (b : Bool) (x s : ℕ) → cond b (x + s) (x - s) ≤ x + s
entered_most true x s = omega arith
entered_most false x s = omega arith

-- a step below `endless` leaves every open bound free
pub open_kept : (t : Task) (h : Tree) (f g : ℕ → ℕ) (i j w step e : ℕ) (forward : Bool)
    (finite most endless : ℕ) → IsHung t h
    → ((k : ℕ) → k < t.net.arcs → f k ≤ t.cap k) → IsSent t h f g i j w w step →
    (g e ≡ f e) → ((k : ℕ) → k < t.net.arcs → f k ≤ most) → step < endless
    → ((k : ℕ) → k < t.net.arcs → (t.cap k ≤ finite) ⊎ (most + endless ≤ t.cap k))
    → IsOpenFree t (set_at g e (entered g e forward step)) finite
open_kept t h f g i j w step e forward finite most endless s within st same small less caps =
    record {
      full = λ k l full. elim (caps k l) [
        | inl z ↦ z
        | inr z ↦
            (let a = small k l in
            let below : set_at g e (entered g e forward step) k ≤ f k + step =
            elim (eqb_tells k e) [
              | inl q ↦ (let b = entered_most forward (g e) step in let d = ap f q.1 in
                  rw (q.0) (omega (arith, b, same, d)))
              | inr q ↦ rw q.0 (sent_most t h f g i j w step s within st k l)
            ] in
            absurd (omega (arith, z, a, below, less, full)))
      ];
    }

pub roomy_same : (t : Task) (supply other : ℕ → ℤ)
    → ((v : ℕ) → v < t.net.nodes → other v ≡ supply v) → IsRoomy t supply → IsRoomy t other
roomy_same t supply other same r = record {
  size = r.size;
  sized = λ v l. rw (same v l) (r.sized v l);
  total = r.total;
  caps = r.caps;
}

pub roomy_kept : (t : Task) (supply : ℕ → ℤ) (h : Tree) (f g : ℕ → ℕ) (i j w step e : ℕ)
    (forward : Bool) → IsHung t h → IsHeld t supply h f → EndsAreNodes t.net
    → IsRoomy t supply → IsOpenFree t f (2 ^ 37) → IsSent t h f g i j w w step → g e ≡ f e
    → step < 2 ^ 61 →
    IsOpenFree t (set_at g e (entered g e forward step)) (2 ^ 37)
roomy_kept t supply h f g i j w step e forward s held shape r free st same less =
    open_kept t h f g i j w step e forward (2 ^ 37) (2 ^ 61) (2 ^ 61) s held.within st same
    (λ k l. (let a = flows_small t supply h f r.size (2 ^ 37) s held shape r.sized free k l in
    let b = r.total in omega (arith, ints, a, b)))
    less
    (λ k l. elim (r.caps k l) [ inl z ↦ inl z | inr z ↦ inr (omega (arith, z)) ])
