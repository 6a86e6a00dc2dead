-- Where no arc may enter and some added arc carries flow, the nodes on one side are a barrier.
use Rattle.std.proofs.Common.{◌≡◌, ◌≢◌, ◌⊎◌, inl, inr, ℕ, ◌+◌, ◌-◌, ◌<◌, ◌≤◌, ◌^◌, Bool}
use Rattle.std.proofs.Common.{true, false, ℤ, pos, neg_ℤ, ◌+ℤ◌, ◌-ℤ◌, ◌≤ℤ◌}
use Rattle.std.proofs.Common.{◌<ℤ◌}
use Rattle.std.proofs.Common.{None, sym, ap, ◌∙◌, arith}
use Rattle.std.proofs.lemmas.Int.{ints}
use Rattle.std.proofs.lemmas.Bool.Decides.{nat_tests}
use Rattle.plain_certificates.proofs.Nets.{sum_where-add}
use Rattle.plain_certificates.proofs.Sides.{set_sends}
use Rattle.plain_certificates.proofs.Sums.{sum_where-same}
use Rattle.plain_certificates.specs.Cuts.{leaves, enters}
use Rattle.plain_certificates.specs.Feasible.{Bounds, IsOver, IsUnder, upper_of}
use Rattle.plain_certificates.specs.Numbered.{Numbered, EndsAreNodes, net, sum_where}
use Rattle.plain_certificates.specs.Rooms.{Joins, as_flow}
use Rattle.pivot_flow.specs.Enter.{NoneEnters}
use Rattle.pivot_flow.specs.State.{IsCosted}
use Rattle.pivot_flow.specs.Tree.{IsLow, Task, Tree}
use Rattle.net_simplex.proofs.Ended.{span_full, supplied, free_at}
use Rattle.net_simplex.proofs.Sides.{IsRim, IsShut, shut, two_sides}
use Rattle.net_simplex.specs.Network.{IsNetwork, IsRunning, IsWeighed, added}
use Rattle.task_bounds.specs.Excess.{IsExcess}
use Rattle.net_simplex.proofs.Crossing.{carried_in, carried_out, enters_by, leaves_by, some_where}
use Rattle.net_simplex.proofs.Crossing.{sum_where-neg}

-- ---- the costs of a network

module _ (g : Numbered) (bounds : Bounds) (t : Task) (c : ℕ → ℤ) (nw : IsNetwork g bounds t)
    (w : IsWeighed g c) where
  -- an arc at the root is an added one
  at_rim : (k : ℕ) → k < t.net.arcs → (t.net.from k ≡ t.root) ⊎ (t.net.to k ≡ t.root)
      → c k ≡ pos (2 ^ 57)
  at_rim k l at_root = elim (under g.arcs k) [
    | inl below ↦ absurd (inner below at_root)
    | inr above ↦
        (let v = k - g.arcs in
        let all = nw.rooted.arcs in
        let is : k ≡ g.arcs + v = omega (arith, above) in
        ap c is ∙ w.rim v (omega (arith, above, all, l)))
  ]
    where
      under : (m j : ℕ) → (j < m) ⊎ (m ≤ j)
      under m j = grind (arith, nat_tests)

      inner : k < g.arcs → (t.net.from k ≡ t.root) ⊎ (t.net.to k ≡ t.root) → ⊥
      inner below (inl e) =
          (let a = nw.rooted.from k below in
          let b = (nw.ends k below).0 in
          let r = nw.rooted.root in
          absurd (omega (arith, a, b, r, e)))
      inner below (inr e) =
          (let a = nw.rooted.to k below in
          let b = (nw.ends k below).1 in
          let r = nw.rooted.root in
          absurd (omega (arith, a, b, r, e)))

  pub is_rim : IsRim t c
  is_rim = λ k l at_root. at_rim k l at_root

-- ---- the sides

module _ (g : Numbered) (bounds : Bounds) (excess : ℕ → ℤ) (t : Task) (c : ℕ → ℤ) (h : Tree)
    (f : ℕ → ℕ) (y : ℕ → ℤ) (nw : IsNetwork g bounds t) (ex : IsExcess g bounds excess)
    (run : IsRunning g excess t c h f y) (x : ℕ → ℤ)
    (is : (k : ℕ) → k < g.arcs → x k ≡ bounds.lower k +ℤ pos (f k)) (costed : IsCosted t c)
    (w : IsWeighed g c) (ends : EndsAreNodes t.net) (stop : NoneEnters t c f y)
    (set : ℕ → Bool) where
  closed : IsShut t f y
  closed = shut t run.sends c h f y ends run.state costed (is_rim g bounds t c nw w) stop

  low : (v : ℕ) → v < g.nodes → IsLow t v
  low v l =
      let all = nw.rooted.nodes in
      let root = nw.rooted.root in
      (omega (arith, all, l), λ e. absurd (omega (arith, root, l, e)))

  inner : (k : ℕ) → k < g.arcs → k < t.net.arcs
  inner k l = let all = nw.rooted.arcs in omega (arith, all, l)

  rim : (v : ℕ) → v < g.nodes → g.arcs + v < t.net.arcs
  rim v l = let all = nw.rooted.arcs in omega (arith, all, l)

  off_from : (k : ℕ) → k < g.arcs → t.net.from k ≢ t.root
  off_from k l e =
      let a = nw.rooted.from k l in
      let b = (nw.ends k l).0 in
      let r = nw.rooted.root in
      absurd (omega (arith, a, b, r, e))

  off_to : (k : ℕ) → k < g.arcs → t.net.to k ≢ t.root
  off_to k l e =
      let a = nw.rooted.to k l in
      let b = (nw.ends k l).1 in
      let r = nw.rooted.root in
      absurd (omega (arith, a, b, r, e))

  -- a node that isn't below 0 is above it
  pub above_0 : (v : ℕ) → v < g.nodes → pos 0 ≤ℤ y v → pos 0 <ℤ y v
  above_0 v l le = elim (two_sides t c h y run.state.hung run.state.priced costed
      (is_rim g bounds t c nw w) v (low v l)) [
        | inl z ↦ absurd (omega (arith, ints, z, le))
        | inr z ↦ omega (arith, ints, z)
      ]

  pub below_0 : (v : ℕ) → v < g.nodes → y v ≤ℤ pos 0 → y v <ℤ pos 0
  below_0 v l le = elim (two_sides t c h y run.state.hung run.state.priced costed
      (is_rim g bounds t c nw w) v (low v l)) [
        | inl z ↦ omega (arith, ints, z)
        | inr z ↦ absurd (omega (arith, ints, z, le))
      ]

  -- an arc from a node below 0 to one above is full, and one back is at its lower bound
  full : (k : ℕ) → k < g.arcs → y (g.from k) <ℤ pos 0 → pos 0 <ℤ y (g.to k)
      → (x k ≡ upper_of bounds k) × (bounds.upper k ≢ None)
  full k l a b =
      let from = ap y (nw.rooted.from k l) in
      let to = ap y (nw.rooted.to k l) in
      span_full (bounds.lower k) (x k) (bounds.upper k) (t.cap k) (f k) (nw.spans k l)
      (closed.out k (inner k l) (off_from k l) (off_to k l) (omega (arith, ints, from, a))
      (omega (arith, ints, to, b)))
      (free_at g bounds excess t c h f y nw ex run x is k l) (is k l)

  empty : (k : ℕ) → k < g.arcs → pos 0 <ℤ y (g.from k) → y (g.to k) <ℤ pos 0
      → x k ≡ bounds.lower k
  empty k l a b =
      let from = ap y (nw.rooted.from k l) in
      let to = ap y (nw.rooted.to k l) in
      let zero = closed.back k (inner k l) (off_from k l) (off_to k l)
      (omega (arith, ints, from, a)) (omega (arith, ints, to, b)) in
      let e = is k l in
      omega (arith, ints, e, zero)

  -- the added arc of a node below 0 carries away from it, that of one above to it
  adds_out : (v : ℕ) → v < g.nodes → y v <ℤ pos 0
      → added g t (as_flow f) v ≡ pos (f (g.arcs + v))
  adds_out v l neg = carried_out t (g.arcs + v) v g.nodes (f (g.arcs + v)) l (nw.rooted.rim v l)
      (λ e. closed.from_root (g.arcs + v) (rim v l) (e ∙ sym nw.rooted.root)
      (to_is (nw.rooted.rim v l) e))
    where
      to_is : Joins t.net (g.arcs + v) v g.nodes → t.net.from (g.arcs + v) ≡ g.nodes
          → y (t.net.to (g.arcs + v)) <ℤ pos 0
      to_is (inl j) e = (let from = j.0 in absurd (omega (arith, from, e, l)))
      to_is (inr j) e = (let to = ap y j.1 in omega (arith, ints, to, neg))

  adds_in : (v : ℕ) → v < g.nodes → pos 0 <ℤ y v
      → added g t (as_flow f) v ≡ neg_ℤ (pos (f (g.arcs + v)))
  adds_in v l up = carried_in t (g.arcs + v) v g.nodes (f (g.arcs + v)) l (nw.rooted.rim v l)
      (λ e. closed.to_root (g.arcs + v) (rim v l) (e ∙ sym nw.rooted.root)
      (from_is (nw.rooted.rim v l) e))
    where
      from_is : Joins t.net (g.arcs + v) v g.nodes → t.net.to (g.arcs + v) ≡ g.nodes
          → pos 0 <ℤ y (t.net.from (g.arcs + v))
      from_is (inl j) e = (let from = ap y j.0 in omega (arith, ints, from, up))
      from_is (inr j) e = (let to = j.1 in absurd (omega (arith, to, e, l)))

  -- what the nodes of the set supply leaves it over its arcs and over its added arcs
  set_supplies : sum_where g.nodes set bounds.supply
      ≡ (sum_where g.arcs (leaves g set) x -ℤ sum_where g.arcs (enters g set) x)
      +ℤ sum_where g.nodes set (added g t (as_flow f))
  set_supplies =
      let each = sum_where-same g.nodes set bounds.supply
      (λ v. net g x v +ℤ added g t (as_flow f) v)
      (λ v l _. sym (supplied g bounds excess t c h f y nw ex run x is v l)) in
      let parts = sum_where-add g.nodes set (net g x) (added g t (as_flow f)) in
      let sends = set_sends g set x nw.ends in
      omega (arith, ints, each, parts, sends)

  pub over : ((v : ℕ) → v < g.nodes → set v ≡ true → y v <ℤ pos 0)
      → ((v : ℕ) → v < g.nodes → set v ≡ false → pos 0 <ℤ y v)
      → (short : ℕ) → short < g.nodes → set short ≡ true → 0 < f (g.arcs + short)
      → (supply limit : ℤ) → supply ≡ sum_where g.nodes set bounds.supply
      → limit ≡ sum_where g.arcs (leaves g set) (upper_of bounds)
      -ℤ sum_where g.arcs (enters g set) bounds.lower → IsOver g bounds set supply limit
  over neg up short l on some supply limit supply_is limit_is =
      let out : (k : ℕ) → k < g.arcs → leaves g set k ≡ true
      → (x k ≡ upper_of bounds k) × (bounds.upper k ≢ None) =
      λ k q on. (let sides = leaves_by (set (g.from k)) (set (g.to k)) on in
      full k q (neg (g.from k) (nw.ends k q).0 sides.0) (up (g.to k) (nw.ends k q).1 sides.1)) in
      let leave = sum_where-same g.arcs (leaves g set) x (upper_of bounds)
      (λ k q on. (out k q on).0) in
      let enter = sum_where-same g.arcs (enters g set) x bounds.lower
      (λ k q on. (let sides = enters_by (set (g.from k)) (set (g.to k)) on in
      empty k q (up (g.from k) (nw.ends k q).0 sides.0) (neg (g.to k) (nw.ends k q).1 sides.1))) in
      let add = sum_where-same g.nodes set (added g t (as_flow f)) (λ v. pos (f (g.arcs + v)))
      (λ v q on. adds_out v q (neg v q on)) in
      let more = some_where g.nodes short set (λ v. f (g.arcs + v)) l on some in
      let all = set_supplies in
      record {
        supply_is = supply_is;
        limit_is = limit_is;
        bounded = λ k q on. (out k q on).1;
        above = omega (arith, ints, supply_is, limit_is, leave, enter, add, more, all);
      }

  pub under : ((v : ℕ) → v < g.nodes → set v ≡ true → pos 0 <ℤ y v)
      → ((v : ℕ) → v < g.nodes → set v ≡ false → y v <ℤ pos 0)
      → (short : ℕ) → short < g.nodes → set short ≡ true → 0 < f (g.arcs + short)
      → (supply limit : ℤ) → supply ≡ sum_where g.nodes set bounds.supply
      → limit ≡ sum_where g.arcs (leaves g set) bounds.lower
      -ℤ sum_where g.arcs (enters g set) (upper_of bounds) → IsUnder g bounds set supply limit
  under up neg short l on some supply limit supply_is limit_is =
      let back : (k : ℕ) → k < g.arcs → enters g set k ≡ true
      → (x k ≡ upper_of bounds k) × (bounds.upper k ≢ None) =
      λ k q on. (let sides = enters_by (set (g.from k)) (set (g.to k)) on in
      full k q (neg (g.from k) (nw.ends k q).0 sides.0) (up (g.to k) (nw.ends k q).1 sides.1)) in
      let enter = sum_where-same g.arcs (enters g set) x (upper_of bounds)
      (λ k q on. (back k q on).0) in
      let leave = sum_where-same g.arcs (leaves g set) x bounds.lower
      (λ k q on. (let sides = leaves_by (set (g.from k)) (set (g.to k)) on in
      empty k q (up (g.from k) (nw.ends k q).0 sides.0) (neg (g.to k) (nw.ends k q).1 sides.1))) in
      let add = sum_where-same g.nodes set (added g t (as_flow f))
      (λ v. neg_ℤ (pos (f (g.arcs + v)))) (λ v q on. adds_in v q (up v q on)) in
      let turned = sum_where-neg g.nodes set (λ v. pos (f (g.arcs + v))) in
      let more = some_where g.nodes short set (λ v. f (g.arcs + v)) l on some in
      let all = set_supplies in
      record {
        supply_is = supply_is;
        limit_is = limit_is;
        bounded = λ k q on. (back k q on).1;
        below = omega (arith, ints, supply_is, limit_is, leave, enter, add, turned, more, all);
      }
