-- One push keeps the state, and leaves less to do.
use Rattle.std.proofs.Common.{◌≡◌, ◌≢◌, inl, inr, ℕ, zero, suc, ◌+◌, ◌-◌, ◌*◌, ◌<◌, ◌≤◌, ◌^◌}
use Rattle.std.proofs.Common.{Bool, true, false, eqb, cond, pos, ◌+ℤ◌, sym, ◌∙◌, ap}
use Rattle.std.proofs.Common.{arith, List, length}
use Rattle.std.proofs.Math.ListN.{set, length-set}
use Rattle.std.proofs.lemmas.Int.{ints}
use Rattle.std.proofs.lemmas.Bool.Decides.{eqb_tells}
use Rattle.std.proofs.Math.Nat.{mul-le-mul_right}
use Rattle.plain_certificates.proofs.Tables.{self_eqb, set_at-here, set_at-other}
use Rattle.plain_certificates.proofs.Totals.{total-two, total-pair}
use Rattle.plain_certificates.specs.Numbered.{net}
use Rattle.plain_certificates.specs.Rooms.{Joins, room_from, sent_from}
use Rattle.plain_certificates.specs.Tables.{set_at}
use Rattle.plain_certificates.specs.Totals.{total_to}
use Rattle.plain_certificates.specs.Pushes.{at_node}
use Rattle.plain_certificates.proofs.Rooms.{net_sent}
use Rattle.push_flow.proofs.Lists.{at-set, differ}
use Rattle.push_flow.specs.Held.{Supply, Task, most, weight, toil, IsHeld}
use Rattle.push_flow.specs.Slices.{at}

from_within : (b : Bool) (x c s : ℕ) → x ≤ c → s ≤ cond b (c - x) x → cond b (x + s) (x - s) ≤ c
from_within true x c s w l = omega arith
from_within false x c s w l = omega arith

-- ---- what one push makes of the flow, the excess and the want
abbrev pub flow_then : Task → (ℕ → ℕ) → ℕ → ℕ → ℕ → ℕ → ℕ
flow_then t f k v step = set_at f k (sent_from t.graph f k v step)

abbrev pub excess_then : (ℕ → ℕ) → (ℕ → ℕ) → ℕ → ℕ → ℕ → ℕ → ℕ
excess_then e w v u step =
    set_at (set_at e v (e v - step)) u (set_at e v (e v - step) u + (step - w u))

abbrev pub want_then : (ℕ → ℕ) → ℕ → ℕ → ℕ → ℕ
want_then w u step = set_at w u (w u - step)

room_fell : (b : Bool) (x c s : ℕ) → s ≤ cond b (c - x) x
    → cond b (c - cond b (x + s) (x - s)) (cond b (x + s) (x - s)) ≤ cond b (c - x) x
room_fell true x c s l = omega arith
room_fell false x c s l = omega arith

-- the room of the arc away from v is less then, and the others' rooms are as before
pub room_then : (t : Task) (f : ℕ → ℕ) (k v step : ℕ) → step ≤ room_from t.graph t.cap f k v
    → room_from t.graph t.cap (flow_then t f k v step) k v ≤ room_from t.graph t.cap f k v
room_then t f k v step l =
    rw (set_at-here f k (sent_from t.graph f k v step))
    (room_fell (eqb (t.graph.from k) v) (f k) (t.cap k) step l)

pub room_kept : (t : Task) (f : ℕ → ℕ) (k v step j x : ℕ) → j ≢ k
    → room_from t.graph t.cap (flow_then t f k v step) j x ≡ room_from t.graph t.cap f j x
room_kept t f k v step j x ne = rw (set_at-other f k (sent_from t.graph f k v step) j ne)

-- the lists after a push
pub excess_lists : (xs ws : List ℕ) (v u step : ℕ) → v < length xs → u < length xs → u ≢ v →
    at (set (set xs v (at xs v - step)) u (at xs u + (step - at ws u)))
    ≡ excess_then (at xs) (at ws) v u step
excess_lists xs ws v u step lv lu ne =
    let a = at xs v - step in
    let x = at xs u + (step - at ws u) in
    let one : at (set (set xs v a) u x) ≡ set_at (at (set xs v a)) u x =
    at-set (set xs v a) u x (rw (length-set xs v a) lu) in
    let two : set_at (at (set xs v a)) u x ≡ set_at (set_at (at xs) v a) u x =
    ap (λ f. set_at f u x) (at-set xs v a lv) in
    let three : set_at (set_at (at xs) v a) u x ≡ excess_then (at xs) (at ws) v u step =
    ap (λ z. set_at (set_at (at xs) v a) u (z + (step - at ws u)))
    (sym (set_at-other (at xs) v a u ne)) in
    one ∙ (two ∙ three)

module _ (t : Task) (supply : ℕ → Supply) (f e w h : ℕ → ℕ) (k v u step : ℕ)
    (s : IsHeld t supply f e w h) (lk : k < t.graph.arcs) (lv : v < t.graph.nodes)
    (lu : u < t.graph.nodes) (joins : Joins t.graph k v u) (down : h v ≡ h u + 1)
    (le : step ≤ room_from t.graph t.cap f k v) (has : step ≤ e v) where
  ne : v ≢ u
  ne q = let x = ap h q in absurd (omega (arith, down, x))

  e_v : excess_then e w v u step v ≡ e v - step
  e_v = rw (differ v u (λ q. ne (sym q)), self_eqb v)

  e_u : excess_then e w v u step u ≡ e u + (step - w u)
  e_u = rw (self_eqb u, differ u v ne)

  e_else : (x : ℕ) → x ≢ v → x ≢ u → excess_then e w v u step x ≡ e x
  e_else x a b = rw (differ x u (λ q. b (sym q)), differ x v (λ q. a (sym q)))

  pub sum_then : total_to t.graph.nodes (excess_then e w v u step) ≤ total_to t.graph.nodes e
  sum_then =
      let two = total-two t.graph.nodes v u (excess_then e w v u step) e lv lu ne
      (λ x l a b. e_else x a b) in
      let a = e_v in
      let b = e_u in
      omega (arith, two, a, b, has)

  balance_then : (x : ℕ) → x < t.graph.nodes
      → net t.graph (λ j. pos (flow_then t f k v step j)) x +ℤ pos (excess_then e w v u step x)
      ≡ (supply x).sends +ℤ pos (want_then w u step x)
  balance_then x l =
      let c = net_sent t.graph t.cap f k v u step x lk joins ne le in
      let old = s.balance x l in
      elim (eqb_tells x v) [
        | inl q ↦
            (let a : excess_then e w v u step x ≡ e x - step = rw q.1 e_v in
            let b : want_then w u step x ≡ w x = rw (differ x u (λ z. ne (sym (z ∙ q.1)))) in
            let am : at_node v (pos step) x ≡ pos step = rw (q.1, self_eqb v) in
            let an : at_node u (pos step) x ≡ pos 0 = rw (q.1, differ u v ne) in
            let more : step ≤ e x = rw q.1 has in
            rw (a, b) (omega (arith, ints, c, am, an, old, more)))
        | inr q ↦
            elim (eqb_tells x u) [
              | inl r ↦
                  (let a : excess_then e w v u step x ≡ e x + (step - w x) = rw r.1 e_u in
                  let b : want_then w u step x ≡ w x - step = rw (r.1, self_eqb u) in
                  let am : at_node v (pos step) x ≡ pos 0 =
                  rw (r.1, differ v u (λ z. ne (sym z))) in
                  let an : at_node u (pos step) x ≡ pos step = rw (r.1, self_eqb u) in
                  rw (a, b) (omega (arith, ints, c, am, an, old)))
              | inr r ↦
                  (let a : excess_then e w v u step x ≡ e x = e_else x q.1 r.1 in
                  let b : want_then w u step x ≡ w x = rw r.0 in
                  let am : at_node v (pos step) x ≡ pos 0 = rw (differ v x q.1) in
                  let an : at_node u (pos step) x ≡ pos 0 = rw (differ u x r.1) in
                  rw (a, b) (omega (arith, ints, c, am, an, old)))
            ]
      ]

  gentle_then : (j x y : ℕ) → j < t.graph.arcs → Joins t.graph j x y
      → 0 < room_from t.graph t.cap (flow_then t f k v step) j x → h x ≤ h y + 1
  gentle_then j x y l jo room =
      elim (eqb_tells j k) [
        | inr q ↦ s.gentle j x y l jo (rw (room_kept t f k v step j x q.1) at room)
        | inl q ↦ same (rw q.1 at jo) joins (rw q.1 at room)
      ]
    where
      along : x ≡ v → y ≡ u → h x ≤ h y + 1
      along a b = let p = ap h a in let q = ap h b in omega (arith, p, q, down)

      back : x ≡ u → y ≡ v → h x ≤ h y + 1
      back a b = let p = ap h a in let q = ap h b in omega (arith, p, q, down)

      same : Joins t.graph k x y → Joins t.graph k v u
          → 0 < room_from t.graph t.cap (flow_then t f k v step) k x → h x ≤ h y + 1
      same (inl a) (inl b) r = along (sym a.0 ∙ b.0) (sym a.1 ∙ b.1)
      same (inl a) (inr b) r = back (sym a.0 ∙ b.0) (sym a.1 ∙ b.1)
      same (inr a) (inl b) r = back (sym a.1 ∙ b.1) (sym a.0 ∙ b.0)
      same (inr a) (inr b) r = along (sym a.1 ∙ b.1) (sym a.0 ∙ b.0)

  apart_then : (x : ℕ) → x < t.graph.nodes → 0 < excess_then e w v u step x
      → want_then w u step x ≡ 0
  apart_then x l z = elim (eqb_tells x u) [
    | inl q ↦
        (let a : excess_then e w v u step u ≡ e u + (step - w u) = e_u in
        let b : 0 < e u + (step - w u) = (rw (q.1, a) at z) in
        let old = s.apart u lu in
        let c : want_then w u step x ≡ w u - step = rw (q.1, self_eqb u) in
        c ∙ none (e u) (w u) b old)
    | inr q ↦
        (let c : want_then w u step x ≡ w x = rw q.0 in
        c ∙ elim (eqb_tells x v) [
          | inl r ↦ s.apart x l
              (let a : 0 < e v - step = (rw (r.1, e_v) at z) in rw r.1 (omega (arith, a)))
          | inr r ↦ s.apart x l (rw (e_else x r.1 q.1) at z)
        ])
  ]
    where
      none : (a b : ℕ) → 0 < a + (step - b) → (0 < a → b ≡ 0) → b - step ≡ 0
      none zero b z o = omega (arith, z)
      none (suc a) b z o = (let q = o (omega arith) in omega (arith, q))

  pub pushed : IsHeld t supply (flow_then t f k v step) (excess_then e w v u step) (want_then w u
      step) h
  pushed = record {
    within = λ j l. elim (eqb_tells j k) [
      | inl q ↦ rw (q.0, q.1)
          (from_within (eqb (t.graph.from k) v) (f k) (t.cap k) step (s.within k lk) le)
      | inr q ↦ rw q.0 (s.within j l)
    ];
    balance = balance_then;
    owed = λ x l. elim (eqb_tells x u) [
      | inl q ↦ (let a : w u ≤ (supply x).wants =
          rw (← q.1) (s.owed x l) in rw q.0 (omega (arith, a)))
      | inr q ↦ rw q.0 (s.owed x l)
    ];
    small = (let a = sum_then in let b = s.small in omega (arith, a, b));
    high = s.high;
    wants = λ x l z. elim (eqb_tells x u) [
      | inl q ↦ s.wants x l (let a : 0 < w u - step = rw q.0 at z in rw q.1 (omega (arith, a)))
      | inr q ↦ s.wants x l (rw q.0 at z)
    ];
    apart = apart_then;
    gentle = gentle_then;
  }

  -- what comes in at u
  pub small_then : e u + step ≤ 2 ^ 63
  small_then =
      let p = total-pair t.graph.nodes v u e lv lu ne in
      let q = s.small in
      omega (arith, p, q, has)

  less_toil : (a b ev eu hv hu s wu : ℕ) → hv ≡ hu + 1 → s ≤ ev → 0 < s
      → (a + (ev - s) * hv) + (b + (eu + (s - wu)) * hu) < (a + ev * hv) + (b + eu * hu)
  less_toil a b ev eu hv hu s wu d l z =
      rw d (split (ev - s) s ev (omega (arith, l)) z (s - wu) (omega arith))
    where
      split : (r s' ev : ℕ) → ev ≡ r + s' → 0 < s' → (c : ℕ) → c ≤ s'
          → (a + r * (hu + 1)) + (b + (eu + c) * hu) < (a + ev * (hu + 1)) + (b + eu * hu)
      split r s' ev is zs c le =
          let m : c * hu ≤ s' * hu = mul-le-mul_right hu le in
          (let p : s' ≤ ev = omega (arith, is) in
          let i : (r + s') * (hu + 1) ≡ r * (hu + 1) + (s' * hu + s') = grind (arith) in
          let q : (eu + c) * hu ≡ eu * hu + c * hu = grind (arith) in
          let y : ev * (hu + 1) ≡ (r + s') * (hu + 1) = ap (λ x. x * (hu + 1)) is in
          omega (arith, m, zs, i, q, y))

  pub toil_then : 0 < step
      → toil t.graph.nodes (excess_then e w v u step) h < toil t.graph.nodes e h
  toil_then z =
      let n = t.graph.nodes in
      let new = λ (x : ℕ). weight n (excess_then e w v u step x) (h x) in
      let old = λ (x : ℕ). weight n (e x) (h x) in
      let two = total-two n v u new old lv lu ne
      (λ x l a b. ap (λ y. weight n y (h x)) (e_else x a b)) in
      let less : new v + new u < old v + old u =
      rw (e_v, e_u)
      (less_toil ((n - h v) * suc most) ((n - h u) * suc most) (e v) (e u) (h v) (h u) step
      (w u) down has z) in
      omega (arith, two, less)

  room_exact : (b : Bool) (x c s : ℕ) → s ≤ cond b (c - x) x
      → cond b (c - cond b (x + s) (x - s)) (cond b (x + s) (x - s)) + s ≡ cond b (c - x) x
  room_exact true x c s l = omega (arith, l)
  room_exact false x c s l = omega (arith, l)

  pub room_less : room_from t.graph t.cap (flow_then t f k v step) k v + step
      ≡ room_from t.graph t.cap f k v
  room_less = rw (set_at-here f k (sent_from t.graph f k v step))
      (room_exact (eqb (t.graph.from k) v) (f k) (t.cap k) step le)

  pub excess_left : excess_then e w v u step v ≡ e v - step
  excess_left = e_v
