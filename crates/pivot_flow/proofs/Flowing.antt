-- A tree arc carries at most what the nodes send and what the arcs off the tree carry.
use Rattle.std.proofs.Common.{◌≡◌, ◌≢◌, ◌⊎◌, inl, inr, ℕ, zero, suc, ◌<◌, Bool, true, false, cond}
use Rattle.std.proofs.Common.{ℤ, pos, neg_ℤ, ◌+ℤ◌, ◌-ℤ◌, ◌*ℤ◌, ◌≤ℤ◌, sym, ◌∙◌, ap, arith}
use Rattle.std.proofs.lemmas.Int.{ints}
use Rattle.std.proofs.lemmas.Bool.Decides.{eqb_tells}
use Rattle.std.proofs.Math.IntN.{zero-*ℤ}
use Rattle.plain_certificates.proofs.Forest.{over_between, over_same, over_self, over_trans}
use Rattle.plain_certificates.proofs.Sums.{mark, sum_to-le}
use Rattle.plain_certificates.proofs.Weights.{weighed}
use Rattle.plain_certificates.specs.Numbered.{EndsAreNodes, net, sum_to}
use Rattle.plain_certificates.specs.Rooms.{Joins}
use Rattle.pivot_flow.proofs.Above.{over_parent}
use Rattle.pivot_flow.proofs.Bools.{bool_cases}
use Rattle.pivot_flow.proofs.Parting.{below, below_over, off_below, over_below}
use Rattle.pivot_flow.proofs.Pricing.{neg-sum_to}
use Rattle.pivot_flow.specs.Tree.{IsHeld, IsHung, IsLow, IsTreeArc, Task, Tree, forest_of}

-- a sum whose parts are small, and one whose parts but one are
all_small : (n : ℕ) (g : ℕ → ℤ) (c : ℤ) → ((k : ℕ) → k < n → (neg_ℤ c ≤ℤ g k) × (g k ≤ℤ c))
    → (pos 0 ≤ℤ (sum_to n g +ℤ sum_to n (λ k. c))) × (sum_to n g ≤ℤ sum_to n (λ k. c))
all_small zero g c h = (omega (arith, ints), omega (arith, ints))
all_small (suc n) g c h =
    let a = all_small n g c (λ k l. h k (omega (arith, l))) in
    let b = h n (omega arith) in
    (omega (arith, ints, a, b), omega (arith, ints, a, b))

one_out : (n e : ℕ) (g : ℕ → ℤ) (c : ℤ) → pos 0 ≤ℤ c → e < n
    → ((k : ℕ) → k < n → k ≢ e → (neg_ℤ c ≤ℤ g k) × (g k ≤ℤ c))
    → (g e ≤ℤ (sum_to n g +ℤ sum_to n (λ k. c))) × (sum_to n g ≤ℤ (g e +ℤ sum_to n (λ k. c)))
one_out zero e g c z l h = absurd (omega (arith, l))
one_out (suc n) e g c z l h =
    elim (eqb_tells e n) [
      | inl q ↦
          (let a =
          all_small n g c (λ k m. h k (omega (arith, m)) (let w = q.1 in
          omega (arith, m, w))) in
          let is = ap g q.1 in
          (omega (arith, ints, a, is, z), omega (arith, ints, a, is, z)))
      | inr q ↦
          (let w = q.1 in
          let a = one_out n e g c z (omega (arith, l, w)) (λ k m. h k (omega (arith, m))) in
          let b = h n (omega arith) (λ y. w (sym y)) in
          (omega (arith, ints, a, b), omega (arith, ints, a, b)))
    ]

-- the part of an arc in what a set sends is at most its flow
part_small : (b d : Bool) (x : ℕ) (c : ℤ) → pos 0 ≤ℤ c → (pos x ≤ℤ c) ⊎ (b ≡ d)
    → (neg_ℤ c ≤ℤ ((cond b (pos 1) (pos 0) -ℤ cond d (pos 1) (pos 0)) *ℤ pos x))
    × (((cond b (pos 1) (pos 0) -ℤ cond d (pos 1) (pos 0)) *ℤ pos x) ≤ℤ c)
part_small true true x c z h =
    (let e = zero-*ℤ (pos x) in (omega (arith, ints, e, z), omega (arith, ints, e, z)))
part_small true false x c z (inl h) = (omega (arith, ints, h, z), omega (arith, ints, h, z))
part_small true false x c z (inr h) = cc
part_small false true x c z (inl h) = (omega (arith, ints, h, z), omega (arith, ints, h, z))
part_small false true x c z (inr h) = cc
part_small false false x c z h =
    (let e = zero-*ℤ (pos x) in (omega (arith, ints, e, z), omega (arith, ints, e, z)))

marked_small : (b : Bool) (x s : ℤ) → neg_ℤ s ≤ℤ x → x ≤ℤ s
    → (neg_ℤ s ≤ℤ (cond b (pos 1) (pos 0) *ℤ x)) × ((cond b (pos 1) (pos 0) *ℤ x) ≤ℤ s)
marked_small true x s l h = (omega (arith, ints, l, h), omega (arith, ints, l, h))
marked_small false x s l h = (let e = zero-*ℤ x in
    (omega (arith, ints, e, l, h), omega (arith, ints, e, l, h)))

-- ---- a tree arc carries at most what the nodes send and what the arcs off the tree carry
module _ (t : Task) (supply : ℕ → ℤ) (h : Tree) (f : ℕ → ℕ) (size : ℕ → ℤ) (c : ℤ) (s : IsHung t h)
    (held : IsHeld t supply h f) (shape : EndsAreNodes t.net)
    (z : pos 0 ≤ℤ c)
    (sized : (v : ℕ) → v < t.net.nodes → (neg_ℤ (size v) ≤ℤ supply v)
    × (supply v ≤ℤ size v)) (small : (k : ℕ) → k < t.net.arcs → (pos (f k) ≤ℤ c)
    ⊎ IsTreeArc t h k) where
  -- a node and its parent are on the same side, but at the top of the part
  same_side : (v u : ℕ) → IsLow t v → IsLow t u → u ≢ v → below h v u ≡ below h v (h.parent u)
  same_side v u lv lu ne =
      let step = over_parent t h u u s lu (over_self (forest_of h) u) in
      let fall = s.falls u lu in
      elim (bool_cases (below h v u)) [
        | inl y ↦
            (let o = below_over h v u y in
            let high = o.high in
            let off : h.depth v ≢ h.depth u =
            λ q. ne (over_same (forest_of h) u u v (over_self (forest_of h) u) o (sym q)) in
            y ∙ sym (over_below h v (h.parent u)
            (over_between (forest_of h) u (h.parent u) v step o
            (omega (arith, fall, high, off)))))
        | inr y ↦
            y ∙ sym (off_below h v (h.parent u)
            (λ o. true_is_false
            (sym (over_below h v u (over_trans (forest_of h) u (h.parent u) v step o)) ∙ y)))
      ]
    where
      true_is_false : true ≡ false → ⊥
      true_is_false q = cc

  ends_same : (v u k : ℕ) → IsLow t v → IsLow t u → u ≢ v → Joins t.net k u (h.parent u)
      → below h v (t.net.from k) ≡ below h v (t.net.to k)
  ends_same v u k lv lu ne (inl j) = ap (below h v) j.0
      ∙ (same_side v u lv lu ne ∙ ap (below h v) (sym j.1))
  ends_same v u k lv lu ne (inr j) = ap (below h v) j.0
      ∙ (sym (same_side v u lv lu ne) ∙ ap (below h v) (sym j.1))

  at_top : (v : ℕ) → IsLow t v → (below h v v ≡ true) × (below h v (h.parent v) ≡ false)
  at_top v lv = (
    over_below h v v (over_self (forest_of h) v),
    off_below h v (h.parent v)
        (λ o. (let high = o.high in let fall = s.falls v lv in absurd (omega (arith, high, fall)))),
  )

  top_part : (v k : ℕ) → Joins t.net k v (h.parent v) → IsLow t v
      → (((mark (below h v) (t.net.from k) -ℤ mark (below h v) (t.net.to k)) *ℤ pos (f k))
      ≡ pos (f k))
      ⊎ (((mark (below h v) (t.net.from k) -ℤ mark (below h v) (t.net.to k)) *ℤ pos (f k))
      ≡ neg_ℤ (pos (f k)))
  top_part v k (inl j) lv =
      inl (rw (j.0, j.1, (at_top v lv).0, (at_top v lv).1) (omega (arith, ints)))
  top_part v k (inr j) lv =
      inr (rw (j.0, j.1, (at_top v lv).0, (at_top v lv).1) (omega (arith, ints)))

  pub flow_small : (v : ℕ) → IsLow t v
      → pos (f (h.arc v)) ≤ℤ (sum_to t.net.nodes size +ℤ sum_to t.net.arcs (λ k. c))
  flow_small v lv =
      let side = below h v in
      let g = t.net in
      let x = λ (k : ℕ). pos (f k) in
      let w = weighed g (mark side) x shape in
      let high = sum_to-le g.nodes (λ u. mark side u *ℤ net g x u) size
      (λ u l. rw (held.met u l) (marked_small (side u) (supply u) (size u) (sized u l).0
      (sized u l).1).1) in
      let low = sum_to-le g.nodes (λ u. neg_ℤ (size u)) (λ u. mark side u *ℤ net g x u)
      (λ u l. rw (held.met u l) (marked_small (side u) (supply u) (size u) (sized u l).0
      (sized u l).1).0) in
      let turn = neg-sum_to g.nodes size in
      let one = one_out g.arcs (h.arc v)
      (λ k. (mark side (g.from k) -ℤ mark side (g.to k)) *ℤ pos (f k)) c z (s.arc v lv)
      (λ k l ne. part_small (side (g.from k)) (side (g.to k)) (f k) c z
      (elim (small k l) [
        | inl q ↦ inl q
        | inr q ↦ inr (let j : Joins g k q.0 (h.parent q.0) = rw (← q.1.1) (s.joins q.0 q.1.0) in
            ends_same v q.0 k lv q.1.0 (λ e. ne (sym q.1.1 ∙ ap h.arc e)) j)
      ])) in
      elim (top_part v (h.arc v) (s.joins v lv) lv) [
        | inl e ↦ (let a = one.0 in omega (arith, ints, a, w, high, e))
        | inr e ↦ (let a = one.1 in omega (arith, ints, a, w, low, turn, e))
      ]
