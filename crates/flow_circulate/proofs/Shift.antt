-- From flows that begin at 0 to flows that begin at their lower bounds: what the engine leaves is a
-- feasible flow or a barrier.
use Rattle.std.proofs.Common.{◌≡◌, ◌≢◌, ℕ, ◌<◌, ◌≤◌, ◌^◌, Bool, true, false, ◌&&◌, not, cond}
use Rattle.std.proofs.Common.{ℤ, pos, ◌+ℤ◌, ◌-ℤ◌, ◌*ℤ◌, ◌<ℤ◌, Option, None, Some, refl, sym}
use Rattle.std.proofs.Common.{◌∙◌}
use Rattle.std.proofs.Common.{arith}
use Rattle.std.specs.Prelude.{unwrap_or}
use Rattle.std.proofs.lemmas.Int.{ints}
use Rattle.plain_certificates.proofs.Nets.{net-add, net-same, sum_where-add}
use Rattle.plain_certificates.proofs.Sides.{set_sends}
use Rattle.plain_certificates.proofs.Sums.{mark, weighed_by_mark, sum_where-same, sum_to-zero}
use Rattle.plain_certificates.proofs.Sums.{sum_to-same, part-le}
use Rattle.plain_certificates.specs.Cuts.{leaves, enters}
use Rattle.plain_certificates.specs.Feasible.{Bounds, IsAtMost, IsFeasible, IsOver, IsUnder}
use Rattle.plain_certificates.specs.Feasible.{AreBounded, upper_of}
use Rattle.plain_certificates.specs.Numbered.{Numbered, EndsAreNodes, net, sum_to, sum_where}
use Rattle.plain_certificates.specs.Rooms.{as_flow}
use Rattle.push_flow.proofs.Shut.{shut_barrier, open_inside}
use Rattle.push_flow.specs.Held.{Supply, IsHeld}
use Rattle.push_flow.specs.Search.{side_of, IsShut}
use Rattle.flow_loads.specs.Loads.{task_in}
use Rattle.task_bounds.specs.Given.{IsSpan}

within_at : (upper : Option ℤ) (low x : ℤ) (cap f : ℕ) → IsSpan low upper cap → f ≤ cap
    → x ≡ low +ℤ pos f → IsAtMost x upper
within_at None low x cap f span l is = tt
within_at (Some high) low x cap f span l is =
    let room = span.0 in
    omega (arith, ints, room, l, is)

known : (upper : Option ℤ) (low : ℤ) (cap : ℕ) → IsSpan low upper cap → upper ≢ None
    → unwrap_or upper (pos 0) ≡ low +ℤ pos cap
known None low cap span some = absurd (some refl)
known (Some high) low cap span some = sym span.0

open_cap : (upper : Option ℤ) (low : ℤ) (cap : ℕ) → IsSpan low upper cap → upper ≡ None
    → 2 ^ 62 ≤ cap
open_cap None low cap span is = omega (arith, span)
open_cap (Some high) low cap span is = absurd cc

entered : (a b : Bool) → (not a && b) ≡ true → a ≡ false
entered true b e = absurd cc
entered false b e = refl

off : {a : Bool} → a ≡ false → a ≡ true → ⊥
off f t = cc

stays : (a b : Bool) (x : ℤ) → a ≡ true → b ≡ true → cond (a && not b) x (pos 0) ≡ pos 0
stays true true x p q = refl
stays true false x p q = absurd cc
stays false b x p q = absurd cc

comes : (a b : Bool) (x : ℤ) → a ≡ true → cond (not a && b) x (pos 0) ≡ pos 0
comes true b x p = refl
comes false b x p = absurd cc

chosen : (b : Bool) (x : ℤ) → b ≡ true → cond b x (pos 0) ≡ x
chosen true x p = refl
chosen false x p = absurd cc

sum_where_all : (n : ℕ) (set : ℕ → Bool) (x : ℕ → ℤ) → ((v : ℕ) → v < n → set v ≡ true)
    → sum_where n set x ≡ sum_to n x
sum_where_all n set x all =
    sum_to-same n (λ v. cond (set v) (x v) (pos 0)) x (λ v l. chosen (set v) (x v) (all v l))

both : (a b : Bool) → (a && not b) ≡ true → (a ≡ true) × (b ≡ false)
both true false e = (refl, refl)
both true true e = absurd cc
both false b e = absurd cc

module _ (g : Numbered) (bounds : Bounds) (cap f e w h : ℕ → ℕ) (supply : ℕ → Supply)
    (shape : EndsAreNodes g) (st : IsHeld (task_in g cap) supply f e w h)
    (needs : (v : ℕ) → v < g.nodes
    → (supply v).sends ≡ bounds.supply v -ℤ net g bounds.lower v)
    (spans : (k : ℕ) → k < g.arcs → IsSpan (bounds.lower k) (bounds.upper k) (cap k)) where
  abbrev pub lifted : ℕ → ℤ
  lifted k = bounds.lower k +ℤ pos (f k)

  lifted_net : (v : ℕ) → net g lifted v ≡ net g bounds.lower v +ℤ net g (as_flow f) v
  lifted_net v = net-add g bounds.lower (as_flow f) v

  -- where nothing is left over or wanted, the flow is feasible
  pub feasible : (x : ℕ → ℤ) → ((k : ℕ) → k < g.arcs → x k ≡ bounds.lower k +ℤ pos (f k))
      → ((v : ℕ) → v < g.nodes → e v ≡ 0) → ((v : ℕ) → v < g.nodes → w v ≡ 0)
      → IsFeasible g bounds x
  feasible x x_is no_e no_w = record {
    above_lower = λ k l. (let is = x_is k l in omega (arith, ints, is));
    within_upper = λ k l.
        within_at (bounds.upper k) (bounds.lower k) (x k) (cap k) (f k) (spans k l)
        (st.within k l) (x_is k l);
    supplied = λ v l.
        (let same = net-same g x lifted v x_is in
        let is = lifted_net v in
        let a = st.balance v l in
        let b = needs v l in
        let p = no_e v l in
        let q = no_w v l in
        omega (arith, ints, same, is, a, b, p, q));
  }

  module _ (shut : IsShut (task_in g cap) f h)
      (quiet : (v : ℕ) → v < g.nodes → h v < g.nodes → e v ≡ 0)
      (small : sum_to g.nodes (λ v. mark (side_of g.nodes h) v *ℤ (supply v).sends)
      <ℤ pos (2 ^ 62)) where
    bounded : AreBounded g bounds (leaves g (side_of g.nodes h))
    bounded k l on =
        (λ is.
        (let ends = both (side_of g.nodes h (g.from k)) (side_of g.nodes h (g.to k)) on in
        open_inside (task_in g cap) supply f e w h shape st shut quiet small k l
        (open_cap (bounds.upper k) (bounds.lower k) (cap k) (spans k l) is) ends.0 ends.1))

    -- what the side supplies
    supplied_is : sum_where g.nodes (side_of g.nodes h) bounds.supply
        ≡ sum_to g.nodes (λ v. mark (side_of g.nodes h) v *ℤ (supply v).sends)
        +ℤ sum_where g.nodes (side_of g.nodes h) (net g bounds.lower)
    supplied_is =
        let set = side_of g.nodes h in
        let parts = sum_where-same g.nodes set bounds.supply
        (λ v. (supply v).sends +ℤ net g bounds.lower v)
        (λ v l on. (let b = needs v l in omega (arith, ints, b))) in
        let add = sum_where-add g.nodes set (λ v. (supply v).sends) (net g bounds.lower) in
        let is = weighed_by_mark g.nodes set (λ v. (supply v).sends) in
        omega (arith, ints, parts, add, is)

    -- what can leave the side
    leaving_is : sum_where g.arcs (leaves g (side_of g.nodes h)) (upper_of bounds)
        ≡ sum_where g.arcs (leaves g (side_of g.nodes h)) bounds.lower
        +ℤ sum_where g.arcs (leaves g (side_of g.nodes h)) (as_flow cap)
    leaving_is =
        let test = leaves g (side_of g.nodes h) in
        sum_where-same g.arcs test (upper_of bounds) (λ k. bounds.lower k +ℤ pos (cap k))
        (λ k l on.
        known (bounds.upper k) (bounds.lower k) (cap k) (spans k l) (bounded k l on))
        ∙ sum_where-add g.arcs test bounds.lower (as_flow cap)

    -- where something is left over, the shut side supplies more than can leave it
    pub over : (v : ℕ) → v < g.nodes → 0 < e v
        → IsOver g bounds (side_of g.nodes h) (sum_where g.nodes (side_of g.nodes h) bounds.supply)
        (sum_where g.arcs (leaves g (side_of g.nodes h)) (upper_of bounds)
        -ℤ sum_where g.arcs (enters g (side_of g.nodes h)) bounds.lower)
    over v l has = record {
      supply_is = refl;
      limit_is = refl;
      bounded = bounded;
      above =
          (let more = shut_barrier (task_in g cap) supply f e w h shape st shut quiet v l has in
          let mine = supplied_is in
          let out = leaving_is in
          let lower = set_sends g (side_of g.nodes h) bounds.lower shape in
          omega (arith, ints, more, mine, out, lower));
    }

  -- where nothing is left over and something is wanted, all nodes together supply less than 0
  module _ (set : ℕ → Bool) (all : (v : ℕ) → v < g.nodes → set v ≡ true) where
    none_leaves : (x : ℕ → ℤ) → sum_where g.arcs (leaves g set) x ≡ pos 0
    none_leaves x =
        sum_to-zero g.arcs (λ k. cond (leaves g set k) (x k) (pos 0))
        (λ k l. stays (set (g.from k)) (set (g.to k)) (x k) (all (g.from k) (shape k l).0)
        (all (g.to k) (shape k l).1))

    none_enters : (x : ℕ → ℤ) → sum_where g.arcs (enters g set) x ≡ pos 0
    none_enters x =
        sum_to-zero g.arcs (λ k. cond (enters g set k) (x k) (pos 0))
        (λ k l. comes (set (g.from k)) (set (g.to k)) (x k) (all (g.from k) (shape k l).0))

    pub under : ((v : ℕ) → v < g.nodes → e v ≡ 0) → (v : ℕ) → v < g.nodes → 0 < w v
        → IsUnder g bounds set (sum_where g.nodes set bounds.supply)
        (sum_where g.arcs (leaves g set) bounds.lower
        -ℤ sum_where g.arcs (enters g set) (upper_of bounds))
    under no_e v l has = record {
      supply_is = refl;
      limit_is = refl;
      bounded = λ k q on. absurd (let ends = entered (set (g.from k)) (set (g.to k)) on in
          off ends (all (g.from k) (shape k q).0));
      below =
          (let sends = set_sends g set lifted shape in
          let a = none_leaves lifted in
          let b = none_enters lifted in
          let c = none_leaves bounds.lower in
          let d = none_enters (upper_of bounds) in
          let each = sum_where-same g.nodes set (net g lifted) (λ x. bounds.supply x +ℤ pos (w x))
          (λ x q _.
          (let is = lifted_net x in
          let p = st.balance x q in
          let r = needs x q in
          let z = no_e x q in
          omega (arith, ints, is, p, r, z))) in
          let add = sum_where-add g.nodes set bounds.supply (λ x. pos (w x)) in
          let wanted = sum_where_all g.nodes set (λ x. pos (w x)) all in
          let some = part-le g.nodes v (λ x. pos (w x)) l (λ x q. omega (arith, ints)) in
          omega (arith, ints, sends, a, b, c, d, each, add, wanted, some, has));
    }
