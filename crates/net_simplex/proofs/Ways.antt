-- The ways up and down the tree, as lists of arcs.
use Rattle.std.proofs.Common.{◌≡◌, ◌≢◌, inl, inr, ℕ, zero, suc, ◌+◌, ◌<◌}
use Rattle.std.proofs.Common.{false, eqb, ℤ, ◌-ℤ◌}
use Rattle.std.proofs.Common.{List, [], ◌∷◌, ◌++◌, length, reverse, refl, sym, ◌∙◌, ap, arith}
use Rattle.std.specs.List.{AllByRecursion, IsDistinct}
use Rattle.std.proofs.lemmas.Int.{ints}
use Rattle.std.proofs.lemmas.List.{length-append, reverse-append}
use Rattle.plain_certificates.proofs.Forest.{over_between, over_same, over_self, over_trans}
use Rattle.plain_certificates.proofs.Tables.{apart_eqb}
use Rattle.plain_certificates.proofs.Walks.{along-append, walk-append}
use Rattle.plain_certificates.specs.Walks.{IsWalk, along, Differ}
use Rattle.plain_certificates.specs.Rooms.{Joins}
use Rattle.pivot_flow.proofs.Above.{over_parent}
use Rattle.pivot_flow.proofs.Sending.{arc_one, off_parent}
use Rattle.pivot_flow.proofs.Turning.{deep_low}
use Rattle.pivot_flow.specs.Tree.{ComesTo, IsHung, IsLow, IsPriced, Task, Tree, forest_of}
use Rattle.net_simplex.specs.Cycles.{ups}

-- ---- lists

-- the arcs on the way down to a node, so many
abbrev pub downs : Tree → ℕ → ℕ → List ℕ
downs h zero node = []
downs h (suc n) node = downs h n (h.parent node) ++ h.arc node ∷ []

pub ups_reversed : (h : Tree) (n node : ℕ) → reverse (ups h n node) ≡ downs h n node
ups_reversed h zero node = refl
ups_reversed h (suc n) node =
    reverse-append (h.arc node ∷ []) (ups h n (h.parent node))
    ∙ ap (λ xs. xs ++ h.arc node ∷ []) (ups_reversed h n (h.parent node))

pub length-ups : (h : Tree) (n node : ℕ) → length (ups h n node) ≡ n
length-ups h zero node = refl
length-ups h (suc n) node = ap suc (length-ups h n (h.parent node))

pub length-downs : (h : Tree) (n node : ℕ) → length (downs h n node) ≡ n
length-downs h zero node = refl
length-downs h (suc n) node =
    let rest = length-downs h n (h.parent node) in
    let all = length-append (downs h n (h.parent node)) (h.arc node ∷ []) in
    omega (arith, rest, all)

pub each-append : (P : ℕ → Type 0) (ks js : List ℕ) → AllByRecursion P ks → AllByRecursion P js
    → AllByRecursion P (ks ++ js)
each-append P [] js a b = b
each-append P (k ∷ ks) js a b = (a.0, each-append P ks js a.1 b)

pub differ-append : (ks js : List ℕ) → Differ ks → Differ js
    → AllByRecursion (λ k. AllByRecursion (λ j. eqb k j ≡ false) js) ks → Differ (ks ++ js)
unfolding IsDistinct
differ-append [] js a b apart = b
differ-append (k ∷ ks) js a b apart = (
  each-append (λ j. eqb k j ≡ false) ks js a.0 apart.0,
  differ-append ks js a.1 b apart.1,
)

nil_differs : Differ []
unfolding IsDistinct
nil_differs = tt

one_differs : (k : ℕ) → Differ (k ∷ [])
unfolding IsDistinct
one_differs k = (tt, tt)

pub cons_differs : (k : ℕ) (js : List ℕ) → AllByRecursion (λ j. eqb k j ≡ false) js → Differ js
    → Differ (k ∷ js)
unfolding IsDistinct
cons_differs k js off rest = (off, rest)

-- ---- one arc of the tree

goes_along : (t : Task) (h : Tree) (v k : ℕ) → v ≢ h.parent v → Joins t.net k v (h.parent v)
    → t.net.from k ≡ v → t.net.to k ≡ h.parent v
goes_along t h v k ne (inl j) f = j.1
goes_along t h v k ne (inr j) f = absurd (ne (sym f ∙ j.0))

against : (t : Task) (h : Tree) (v k : ℕ) → Joins t.net k v (h.parent v) → t.net.from k ≢ v
    → (t.net.from k ≡ h.parent v) × (t.net.to k ≡ v)
against t h v k (inl j) f = absurd (f j.0)
against t h v k (inr j) f = j

-- ---- the ways up and down

module _ (t : Task) (h : Tree) (s : IsHung t h) where
  -- what the parent of a node below w is
  record IsStep (u w : ℕ) : Type 0 where
    low : IsLow t u
    inside : h.parent u < t.net.nodes
    over : ComesTo h (h.parent u) w
    step : ComesTo h u (h.parent u)
    fall : h.depth u ≡ h.depth (h.parent u) + 1

  step_at : (m u w : ℕ) → u < t.net.nodes → ComesTo h u w → h.depth u ≡ h.depth w + suc m
      → IsStep u w
  step_at m u w l o d =
      let low = deep_low t h u (h.depth w) s l (omega (arith, d)) in
      let fall = s.falls u low in
      let step = over_parent t h u u s low (over_self (forest_of h) u) in
      record {
        low = low;
        inside = s.parent u low;
        over = over_between (forest_of h) u (h.parent u) w step o (omega (arith, d, fall));
        step = step;
        fall = fall;
      }

  -- what holds of the arc of each node on the way
  pub ups_each : (P : ℕ → Type 0) (m u w : ℕ) → u < t.net.nodes → ComesTo h u w
      → h.depth u ≡ h.depth w + m
      → ((v : ℕ) → IsLow t v → ComesTo h u v → h.depth w < h.depth v → P (h.arc v))
      → AllByRecursion P (ups h m u)
  ups_each P zero u w l o d each = tt
  ups_each P (suc m) u w l o d each =
      let at_u = step_at m u w l o d in
      let fall = at_u.fall in (
        each u at_u.low (over_self (forest_of h) u) (omega (arith, d)),
        ups_each P m (h.parent u) w at_u.inside at_u.over (omega (arith, d, fall))
            (λ v lv ov dv. each v lv (over_trans (forest_of h) u (h.parent u) v at_u.step ov) dv),
      )

  pub downs_each : (P : ℕ → Type 0) (m u w : ℕ) → u < t.net.nodes → ComesTo h u w
      → h.depth u ≡ h.depth w + m
      → ((v : ℕ) → IsLow t v → ComesTo h u v → h.depth w < h.depth v → P (h.arc v))
      → AllByRecursion P (downs h m u)
  downs_each P zero u w l o d each = tt
  downs_each P (suc m) u w l o d each =
      let at_u = step_at m u w l o d in
      let fall = at_u.fall in
      each-append P (downs h m (h.parent u)) (h.arc u ∷ [])
      (downs_each P m (h.parent u) w at_u.inside at_u.over (omega (arith, d, fall))
      (λ v lv ov dv. each v lv (over_trans (forest_of h) u (h.parent u) v at_u.step ov) dv))
      (each u at_u.low (over_self (forest_of h) u) (omega (arith, d)), tt)

  -- a node's arc is not that of a node above
  off_above : (u v : ℕ) → IsLow t u → IsLow t v → ComesTo h (h.parent u) v
      → h.depth u ≡ h.depth (h.parent u) + 1 → h.arc u ≢ h.arc v
  off_above u v lu lv o fall e =
      let same = ap h.depth (arc_one t h u v s lu lv e) in
      let high = o.high in
      absurd (omega (arith, same, high, fall))

  pub ups_differ : (m u w : ℕ) → u < t.net.nodes → ComesTo h u w → h.depth u ≡ h.depth w + m
      → Differ (ups h m u)
  ups_differ zero u w l o d = nil_differs
  ups_differ (suc m) u w l o d =
      let at_u = step_at m u w l o d in
      let fall = at_u.fall in
      cons_differs (h.arc u) (ups h m (h.parent u))
      (ups_each (λ j. eqb (h.arc u) j ≡ false) m (h.parent u) w at_u.inside at_u.over
      (omega (arith, d, fall))
      (λ v lv ov dv. apart_eqb (h.arc u) (h.arc v) (off_above u v at_u.low lv ov at_u.fall)))
      (ups_differ m (h.parent u) w at_u.inside at_u.over (omega (arith, d, fall)))

  pub downs_differ : (m u w : ℕ) → u < t.net.nodes → ComesTo h u w → h.depth u ≡ h.depth w + m
      → Differ (downs h m u)
  downs_differ zero u w l o d = nil_differs
  downs_differ (suc m) u w l o d =
      let at_u = step_at m u w l o d in
      let fall = at_u.fall in
      differ-append (downs h m (h.parent u)) (h.arc u ∷ [])
      (downs_differ m (h.parent u) w at_u.inside at_u.over (omega (arith, d, fall)))
      (one_differs (h.arc u))
      (downs_each (λ k. AllByRecursion (λ j. eqb k j ≡ false) (h.arc u ∷ [])) m (h.parent u) w
      at_u.inside at_u.over (omega (arith, d, fall))
      (λ v lv ov dv. (
        apart_eqb (h.arc v) (h.arc u)
            (λ e. off_above u v at_u.low lv ov at_u.fall (sym e)),
        tt,
      )))

module _ (t : Task) (cost : ℕ → ℤ) (h : Tree) (y : ℕ → ℤ) (s : IsHung t h)
    (pr : IsPriced t cost h y) where
  -- the way up along arcs that lead up, and what it costs
  pub up_walk : (m u w : ℕ) → u < t.net.nodes → ComesTo h u w → h.depth u ≡ h.depth w + m
      → ((v : ℕ) → IsLow t v → ComesTo h u v → h.depth w < h.depth v → t.net.from (h.arc v) ≡ v)
      → IsWalk t.net u (ups h m u) w × (along cost (ups h m u) ≡ y w -ℤ y u)
  up_walk zero u w l o d up =
      let is : u ≡ w = over_same (forest_of h) u u w (over_self (forest_of h) u) o
      (omega (arith, d)) in
      (is, (let e = ap y is in omega (arith, ints, e)))
  up_walk (suc m) u w l o d up =
      let at_u = step_at t h s m u w l o d in
      let k = h.arc u in
      let fall = at_u.fall in
      let from = up u at_u.low (over_self (forest_of h) u) (omega (arith, d)) in
      let to = goes_along t h u k (off_parent t h u s at_u.low) (s.joins u at_u.low) from in
      let rest = up_walk m (h.parent u) w at_u.inside at_u.over (omega (arith, d, fall))
      (λ v lv ov dv. up v lv (over_trans (forest_of h) u (h.parent u) v at_u.step ov) dv) in
      let zero_cost = rw (from, to) at (pr.zero u at_u.low) in
      let sum = rest.1 in
      ((s.arc u at_u.low, from, rw to rest.0), omega (arith, ints, zero_cost, sum))

  -- the way down along arcs that lead down
  pub down_walk : (m u w : ℕ) → u < t.net.nodes → ComesTo h u w → h.depth u ≡ h.depth w + m
      → ((v : ℕ) → IsLow t v → ComesTo h u v → h.depth w < h.depth v → t.net.from (h.arc v) ≢ v)
      → IsWalk t.net w (downs h m u) u × (along cost (downs h m u) ≡ y u -ℤ y w)
  down_walk zero u w l o d down =
      let is : u ≡ w = over_same (forest_of h) u u w (over_self (forest_of h) u) o
      (omega (arith, d)) in
      (sym is, (let e = ap y is in omega (arith, ints, e)))
  down_walk (suc m) u w l o d down =
      let at_u = step_at t h s m u w l o d in
      let k = h.arc u in
      let fall = at_u.fall in
      let ends = against t h u k (s.joins u at_u.low)
      (down u at_u.low (over_self (forest_of h) u) (omega (arith, d))) in
      let rest = down_walk m (h.parent u) w at_u.inside at_u.over (omega (arith, d, fall))
      (λ v lv ov dv. down v lv (over_trans (forest_of h) u (h.parent u) v at_u.step ov) dv) in
      let zero_cost = rw (ends.0, ends.1) at (pr.zero u at_u.low) in
      let sum = rest.1 in
      let more = along-append cost (downs h m (h.parent u)) (k ∷ []) in (
        walk-append t.net w (h.parent u) u (downs h m (h.parent u)) (k ∷ []) rest.0
            (s.arc u at_u.low, ends.0, ends.1),
        omega (arith, ints, zero_cost, sum, more),
      )
