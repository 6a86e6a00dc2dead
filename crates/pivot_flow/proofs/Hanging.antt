-- The tree hangs again, and its arcs have the reduced cost 0.
use Rattle.std.proofs.Common.{◌≡◌, ◌≢◌, ◌⊎◌, inl, inr, ℕ, zero, suc, ◌+◌, ◌-◌, ◌<◌, ◌≤◌, ℤ, pos}
use Rattle.std.proofs.Common.{neg_ℤ, ◌+ℤ◌, sym, ◌∙◌, ap, arith}
use Rattle.std.proofs.lemmas.Int.{ints}
use Rattle.std.proofs.lemmas.Bool.Decides.{eqb_tells}
use Rattle.plain_certificates.proofs.Forest.{over_same, over_self}
use Rattle.plain_certificates.specs.Cheapest.{reduced_cost}
use Rattle.plain_certificates.specs.Forest.{lift}
use Rattle.plain_certificates.specs.Numbered.{Numbered}
use Rattle.plain_certificates.specs.Rooms.{Joins}
use Rattle.pivot_flow.proofs.Above.{low_deep}
use Rattle.pivot_flow.proofs.Turning.{deep_low}
use Rattle.pivot_flow.specs.Enter.{IsSettled}
use Rattle.pivot_flow.specs.Tree.{ComesTo, IsHung, IsLow, IsPriced, Task, Tree, forest_of}
use Rattle.pivot_flow.specs.Turn.{IsTurned}

-- ---- going up from a node is decidable, and the node below one on the way
pub over_or_not : (h : Tree) (u v : ℕ) → ComesTo h u v ⊎ (ComesTo h u v → ⊥)
over_or_not h u v =
    elim (eqb_tells (lift h.parent (h.depth u - h.depth v) u) v) [
      | inl e ↦
          elim (eqb_tells (h.depth v - h.depth u) 0) [
            | inl d ↦ inl (record { high = (let q = d.1 in omega (arith, q)); is = e.1 })
            | inr d ↦ inr (λ o. d.1 (let q = o.high in omega (arith, q)))
          ]
      | inr e ↦ inr (λ o. e.1 o.is)
    ]

pub lifted : (t : Task) (h : Tree) (n u : ℕ) → IsHung t h → u < t.net.nodes → n ≤ h.depth u
    → (lift h.parent n u < t.net.nodes) × (h.depth (lift h.parent n u) + n ≡ h.depth u)
lifted t h zero u s l le = (l, omega arith)
lifted t h (suc n) u s l le =
    let up = lifted t h n u s l (omega (arith, le)) in
    let same = up.1 in
    let low = deep_low t h (lift h.parent n u) 0 s up.0 (omega (arith, same, le)) in
    let fall = s.falls (lift h.parent n u) low in
    (s.parent (lift h.parent n u) low, omega (arith, fall, same))

-- the node on the way just below v
pub just_below : (t : Task) (h : Tree) (u v : ℕ) → IsHung t h → u < t.net.nodes → ComesTo h u v
    → v ≢ u → (w : ℕ) × (IsLow t w × (ComesTo h u w × (h.parent w ≡ v)))
just_below t h u v s l o ne =
    let high : h.depth v ≤ h.depth u = o.high in
    let off : h.depth v ≢ h.depth u =
    λ e. ne (over_same (forest_of h) u v u o (over_self (forest_of h) u) e) in
    let n = (h.depth u - h.depth v) - 1 in
    let w = lift h.parent n u in
    let up = lifted t h n u s l (omega (arith, high, off)) in
    let same : h.depth w + n ≡ h.depth u = up.1 in
    let low = deep_low t h w 0 s up.0 (omega (arith, same, high, off)) in
    let more : h.depth u - h.depth v ≡ suc n = omega (arith, high, off) in
    let less : h.depth u - h.depth w ≡ n = omega (arith, same) in (
      w,
      (
        low,
        (
          record { high = omega (arith, same); is = ap (λ d. lift h.parent d u) less },
          ap (λ d. lift h.parent d u) (sym more) ∙ o.is,
        ),
      ),
    )

-- ---- each node of the new tree hangs as before, or is the first one, or hangs under what hung
-- under it
abbrev pub IsKept : Tree → (ℕ → ℕ) → (ℕ → ℕ) → ℕ → ℕ → ℕ → Type 0
IsKept h p a inner x v = ((p v ≡ h.parent v) × (a v ≡ h.arc v))
    × (ComesTo h inner v → h.depth v < h.depth x)

abbrev pub IsBelow : Task → Tree → ℕ → ℕ → ℕ → ℕ → Type 0
IsBelow t h inner x v u = IsLow t u
    × (ComesTo h inner u × ((h.depth x < h.depth u) × (h.parent u ≡ v)))

module _ (t : Task) (h : Tree) (p a : ℕ → ℕ) (inner outer e x : ℕ) (s : IsHung t h)
    (tu : IsTurned t h p a inner outer e x)
    (li : inner < t.net.nodes) (low_x : IsLow t x) (over : ComesTo h inner x) where
  pub tree_cases : (v : ℕ) → IsLow t v → IsKept h p a inner x v
      ⊎ ((v ≡ inner) ⊎ ((u : ℕ) × IsBelow t h inner x v u))
  tree_cases v lv =
      elim (over_or_not h inner v) [
        | inr never ↦ inl (tu.kept v (λ o. absurd (never o)), λ o. absurd (never o))
        | inl o ↦
            elim (eqb_tells (h.depth x - h.depth v) 0) [
              | inr d ↦ (let q = d.1 in let lt : h.depth v < h.depth x = omega (arith, q) in
                  inl (tu.kept v (λ _. lt), λ _. lt))
              | inl d ↦
                  elim (eqb_tells v inner) [
                    | inl i ↦ inr (inl i.1)
                    | inr i ↦
                        (let b = just_below t h inner v s li o i.1 in
                        let fall = s.falls b.0 b.1.0 in
                        let same = ap h.depth b.1.1.1 in
                        let q = d.1 in
                        inr (inr
                        (b.0, (b.1.0, (b.1.1.0, (omega (arith, q, fall, same), b.1.1.1))))))
                  ]
            ]
      ]

  pub inner_low : IsLow t inner
  inner_low = (let d = low_deep t h x s low_x in let o = over.high in
      deep_low t h inner 0 s li (omega (arith, d, o)))

  kept_off : (v : ℕ) → IsKept h p a inner x v → v ≢ inner
  kept_off v k i = (let q = k.1 (rw i (over_self (forest_of h) inner)) in let d = ap h.depth i in
      let o = over.high in absurd (omega (arith, q, d, o)))

  -- what hangs by an arc of the old tree still does, but for x
  pub still_tree : (p' : ℕ → ℕ) (d' : ℕ → ℕ) (v : ℕ) → IsLow t v → v ≢ x → (w : ℕ)
      × (IsLow t w × (a w ≡ h.arc v))
  still_tree p' d' v lv ne =
      elim (over_or_not h inner v) [
        | inr never ↦ (v, (lv, (tu.kept v (λ o. absurd (never o))).1))
        | inl o ↦
            elim (eqb_tells (h.depth v - h.depth x) 0) [
              | inr d ↦
                  (let q = d.1 in
                  let fall = s.falls v lv in
                  let deep = low_deep t h x s low_x in
                  let up = s.parent v lv in (
                    h.parent v,
                    (
                      deep_low t h (h.parent v) 0 s up (omega (arith, q, fall, deep)),
                      (tu.turned v lv o (omega (arith, q))).1,
                    ),
                  ))
              | inl d ↦
                  (let q = d.1 in
                  let off : h.depth v ≢ h.depth x =
                  λ z. ne (over_same (forest_of h) inner v x o over z) in
                  let lt : h.depth v < h.depth x = omega (arith, q, off) in
                  (v, (lv, (tu.kept v (λ _. lt)).1)))
            ]
      ]

  -- the new tree hangs together
  pub hung_again : (y y' : ℕ → ℤ) (d' : ℕ → ℕ) (by : ℤ) → outer < t.net.nodes → e < t.net.arcs
      → Joins t.net e inner outer → IsSettled t p y y' d' inner outer by
      → IsHung t (record { parent = p; arc = a; depth = d' })
  hung_again y y' d' by lo le joins st = record {
    top = s.top;
    top_depth = st.top;
    parent = λ v lv.
        elim (tree_cases v lv) [
          | inl k ↦ rw k.0.0 (s.parent v lv)
          | inr (inl i) ↦ rw (i, tu.first.0) lo
          | inr (inr b) ↦ (let n = tu.turned b.0 b.1.0 b.1.1.0 b.1.1.1.0 in
              rw (← b.1.1.1.1, n.0) b.1.0.0)
        ];
    arc = λ v lv.
        elim (tree_cases v lv) [
          | inl k ↦ rw k.0.1 (s.arc v lv)
          | inr (inl i) ↦ rw (i, tu.first.1) le
          | inr (inr b) ↦ (let n = tu.turned b.0 b.1.0 b.1.1.0 b.1.1.1.0 in
              rw (← b.1.1.1.1, n.1) (s.arc b.0 b.1.0))
        ];
    joins = λ v lv.
        elim (tree_cases v lv) [
          | inl k ↦ rw (k.0.0, k.0.1) (s.joins v lv)
          | inr (inl i) ↦ rw (i, tu.first.0, tu.first.1) joins
          | inr (inr b) ↦
              (let n = tu.turned b.0 b.1.0 b.1.1.0 b.1.1.1.0 in
              rw (← b.1.1.1.1, n.0, n.1) (swap b.0 (h.parent b.0) (h.arc b.0) (s.joins b.0 b.1.0)))
        ];
    falls = st.depth;
  }
    where
      swap : (v q k : ℕ) → Joins t.net k v q → Joins t.net k q v
      swap v q k (inl j) = inr j
      swap v q k (inr j) = inl j

-- ---- an arc keeps its reduced cost where the potentials of both its ends change alike
same_change : (g : Numbered) (cost y y' : ℕ → ℤ) (k v q : ℕ) → Joins g k v q
    → y' v +ℤ y q ≡ y' q +ℤ y v → reduced_cost g cost y' k ≡ reduced_cost g cost y k
same_change g cost y y' k v q (inl j) m = rw (j.0, j.1) (omega (arith, ints, m))
same_change g cost y y' k v q (inr j) m = rw (j.0, j.1) (omega (arith, ints, m))

-- the entering arc gets the reduced cost 0
enters_priced : (g : Numbered) (cost y y' : ℕ → ℤ) (e inner outer : ℕ) (by : ℤ)
    → Joins g e inner outer → inner ≢ outer →
    (g.from e ≡ inner → by ≡ neg_ℤ (reduced_cost g cost y e))
    → (g.to e ≡ inner → by ≡ reduced_cost g cost y e) →
    y' inner ≡ y inner +ℤ by → y' outer ≡ y outer → reduced_cost g cost y' e ≡ pos 0
enters_priced g cost y y' e inner outer by (inl j) ne a b i o = let c = a j.0 in let d =
    rw (j.0, j.1) at c in rw (j.0, j.1) (omega (arith, ints, i, o, d))
enters_priced g cost y y' e inner outer by (inr j) ne a b i o = let c = b j.1 in let d =
    rw (j.0, j.1) at c in rw (j.0, j.1) (omega (arith, ints, i, o, d))

module _ (t : Task) (cost : ℕ → ℤ) (h : Tree) (p a : ℕ → ℕ) (inner outer e x : ℕ) (y y' : ℕ → ℤ)
    (d' : ℕ → ℕ) (by : ℤ) (s : IsHung t h) (tu : IsTurned t h p a inner outer e x)
    (li : inner < t.net.nodes) (low_x : IsLow t x) (over : ComesTo h inner x) where
  pub priced_again : IsPriced t cost h y → Joins t.net e inner outer → inner ≢ outer →
      (t.net.from e ≡ inner → by ≡ neg_ℤ (reduced_cost t.net cost y e))
      → (t.net.to e ≡ inner → by ≡ reduced_cost t.net cost y e) →
      IsSettled t p y y' d' inner outer by
      → IsPriced t cost (record { parent = p; arc = a; depth = d' }) y'
  priced_again pr joins ne from_inner to_inner st = record {
    top = st.top_price ∙ pr.top;
    zero = λ v lv.
        elim (tree_cases t h p a inner outer e x s tu li low_x over v lv) [
          | inl k ↦
              (let m = st.moved v lv (kept_off t h p a inner outer e x s tu li low_x over v k) in
              let c = same_change t.net cost y y' (h.arc v) v (h.parent v) (s.joins v lv)
              (rw k.0.0 at m) in
              ap (reduced_cost t.net cost y') k.0.1 ∙ (c ∙ pr.zero v lv))
          | inr (inl i) ↦
              ap (reduced_cost t.net cost y') (ap a i ∙ tu.first.1)
              ∙ enters_priced t.net cost y y' e inner outer by joins ne from_inner to_inner
              st.inner_price st.outer_price
          | inr (inr b) ↦
              (let u = b.0 in
              let is = b.1.1.1.1 in
              let n = tu.turned u b.1.0 b.1.1.0 b.1.1.1.0 in
              let fall = s.falls u b.1.0 in
              let top = b.1.1.0.high in
              let off : v ≢ inner = λ z. (let q = ap h.depth z in let r = ap h.depth is in
              absurd (omega (arith, fall, top, q, r))) in
              let up : p v ≡ u = ap p (sym is) ∙ n.0 in
              let m = rw up at (st.moved v lv off) in
              let c = same_change t.net cost y y' (h.arc u) u (h.parent u) (s.joins u b.1.0)
              (rw is (sym m)) in
              ap (reduced_cost t.net cost y') (ap a (sym is) ∙ n.1) ∙ (c ∙ pr.zero u b.1.0))
        ];
  }
