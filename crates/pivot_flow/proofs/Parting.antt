-- The part that was turned is one to walk over; depths are small.
use Rattle.std.proofs.Common.{◌≡◌, ◌⊎◌, inl, inr, ℕ, zero, suc, ◌+◌, ◌-◌, ◌<◌, ◌≤◌, Bool, true}
use Rattle.std.proofs.Common.{false, refl, sym, ◌∙◌, ap, arith}
use Rattle.std.proofs.lemmas.Bool.Decides.{eqb_tells}
use Rattle.plain_certificates.proofs.Forest.{over_between, over_same, over_self, over_trans}
use Rattle.plain_certificates.proofs.Pigeons.{pigeons}
use Rattle.plain_certificates.specs.Forest.{lift}
use Rattle.pivot_flow.proofs.Above.{low_deep, over_parent}
use Rattle.pivot_flow.proofs.Bools.{true_not_false}
use Rattle.pivot_flow.proofs.Hanging.{inner_low, just_below, lifted, over_or_not, tree_cases}
use Rattle.pivot_flow.proofs.Turning.{deep_low}
use Rattle.pivot_flow.specs.Spread.{IsCut}
use Rattle.pivot_flow.specs.Tree.{ComesTo, IsHung, IsLow, Task, Tree, forest_of}
use Rattle.pivot_flow.specs.Turn.{IsTurned}

pub decided : {A : Type 0} → A ⊎ (A → ⊥) → Bool
decided (inl a) = true
decided (inr b) = false

-- whether v stands at or below x
unfoldable pub below : Tree → ℕ → ℕ → Bool
below h x v = decided (over_or_not h v x)

decided_true : {A : Type 0} (d : A ⊎ (A → ⊥)) → decided d ≡ true → A
unfolding decided
decided_true (inl a) e = a
decided_true (inr b) e = absurd (true_not_false (sym e))

decided_is : {A : Type 0} (d : A ⊎ (A → ⊥)) → A → decided d ≡ true
unfolding decided
decided_is (inl a) b = refl
decided_is (inr c) b = absurd (c b)

decided_not : {A : Type 0} (d : A ⊎ (A → ⊥)) → (A → ⊥) → decided d ≡ false
unfolding decided
decided_not (inl a) b = absurd (b a)
decided_not (inr c) b = refl

pub below_over : (h : Tree) (x v : ℕ) → below h x v ≡ true → ComesTo h v x
unfolding below
below_over h x v e = decided_true (over_or_not h v x) e

pub over_below : (h : Tree) (x v : ℕ) → ComesTo h v x → below h x v ≡ true
unfolding below
over_below h x v o = decided_is (over_or_not h v x) o

pub off_below : (h : Tree) (x v : ℕ) → (ComesTo h v x → ⊥) → below h x v ≡ false
unfolding below
off_below h x v o = decided_not (over_or_not h v x) o

-- the part that was turned is a part to walk down
module _ (t : Task) (h : Tree) (p a : ℕ → ℕ) (inner outer e x : ℕ) (s : IsHung t h)
    (tu : IsTurned t h p a inner outer e x)
    (li : inner < t.net.nodes) (low_x : IsLow t x) (over : ComesTo h inner x) where
  -- the way up from inner is reached by any walk down
  way_seen : (seen : ℕ → Bool) → seen inner ≡ true
      → ((v : ℕ) → IsLow t v → seen (p v) ≡ true → seen v ≡ true) →
      (m v : ℕ) → v < t.net.nodes → ComesTo h inner v → h.depth x ≤ h.depth v
      → h.depth inner ≤ h.depth v + m → seen v ≡ true
  way_seen seen begins closed zero v lv o d le =
      let is = over_same (forest_of h) inner v inner o (over_self (forest_of h) inner) (let high =
      o.high in omega (arith, high, le)) in
      ap seen is ∙ begins
  way_seen seen begins closed (suc m) v lv o d le =
      elim (eqb_tells v inner) [
        | inl z ↦ ap seen z.1 ∙ begins
        | inr z ↦
            (let b = just_below t h inner v s li o z.1 in
            let w = b.0 in
            let fall = s.falls w b.1.0 in
            let is = b.1.1.1 in
            let same = ap h.depth is in
            let there = way_seen seen begins closed m w b.1.0.0 b.1.1.0
            (omega (arith, fall, same, d)) (omega (arith, fall, same, le)) in
            let up = (tu.turned w b.1.0 b.1.1.0 (omega (arith, fall, same, d))).0 in
            let at : p v ≡ w = ap p (sym is) ∙ up in
            let deep = low_deep t h x s low_x in
            closed v (deep_low t h v 0 s lv (omega (arith, deep, d))) (ap seen at ∙ there))
      ]

  pub cut_turned : outer < t.net.nodes → (ComesTo h outer x → ⊥) → IsCut t p h.depth inner outer
  cut_turned lo off = record {
    low = inner_low t h p a inner outer e x s tu li low_x over;
    hangs = tu.first.0;
    outer_node = lo;
    part = below h x;
    lacks = off_below h x outer off;
    has = over_below h x inner over;
    lacks_root = off_below h x t.root
        (λ o. (let deep = low_deep t h x s low_x in let high = o.high in let top = s.top_depth in
        absurd (omega (arith, deep, high, top))));
    each = λ v lv q. over_below h x v
        (let o = below_over h x (p v) q in
        elim (tree_cases t h p a inner outer e x s tu li low_x over v lv) [
          | inl k ↦ over_trans (forest_of h) v (h.parent v) x
              (over_parent t h v v s lv (over_self (forest_of h) v)) (rw k.0.0 at o)
          | inr (inl i) ↦ rw i over
          | inr (inr b) ↦
              (let u = b.0 in
              let fall = s.falls u b.1.0 in
              let lt = b.1.1.1.0 in
              let up = over_parent t h inner u s b.1.0 b.1.1.0 in
              rw (← b.1.1.1.1) (over_between (forest_of h) inner (h.parent u) x up over
              (omega (arith, fall, lt))))
        ]);
    outside = λ seen begins closed v lv q.
        elim (tree_cases t h p a inner outer e x s tu li low_x over v lv) [
          | inl k ↦ rw k.0.0 (s.falls v lv)
          | inr (inl i) ↦ absurd (true_not_false (sym begins ∙ (ap seen (sym i) ∙ q)))
          | inr (inr b) ↦
              (let u = b.0 in
              let fall = s.falls u b.1.0 in
              let lt = b.1.1.1.0 in
              let is = b.1.1.1.1 in
              let up = over_parent t h inner u s b.1.0 b.1.1.0 in
              let there = way_seen seen begins closed (h.depth inner) (h.parent u)
              (s.parent u b.1.0) up (omega (arith, fall, lt)) (omega arith) in
              absurd (true_not_false (sym there ∙ (ap seen is ∙ q))))
        ];
  }

-- a tree is less deep than it has nodes
pub depth_small : (t : Task) (h : Tree) (v : ℕ) → IsHung t h → v < t.net.nodes
    → h.depth v < t.net.nodes
depth_small t h v s l =
    let m = pigeons t.net.nodes (h.depth v + 1) (λ k. lift h.parent k v)
    (λ u. h.depth v - h.depth u)
    (λ k lt. (let up = lifted t h k v s l (omega (arith, lt)) in let d = up.1 in
    (up.0, omega (arith, d)))) in
    omega (arith, m)
