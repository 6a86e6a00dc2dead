-- Looking at the arcs of a node with excess, one by one.
use Rattle.std.proofs.Common.{◌≡◌, ◌≢◌, ◌⊎◌, inl, inr, ℕ, ◌+◌, ◌-◌, ◌<◌, ◌≤◌}
use Rattle.std.proofs.Common.{arith}
use Rattle.std.proofs.lemmas.Int.{ints}
use Rattle.std.proofs.lemmas.Bool.Decides.{eqb_tells}
use Rattle.push_flow.specs.declared.push.Spoke.{Spoke}
use Rattle.plain_certificates.proofs.Tables.{set_at-here, set_at-other}
use Rattle.plain_certificates.proofs.Totals.{total-one, total-part}
use Rattle.plain_certificates.specs.Rooms.{Joins, room_from}
use Rattle.plain_certificates.specs.Tables.{set_at}
use Rattle.push_flow.proofs.Pushing.{flow_then, excess_then, want_then, pushed, toil_then}
use Rattle.push_flow.proofs.Pushing.{room_less}
use Rattle.push_flow.proofs.Pushing.{room_kept, excess_left}
use Rattle.push_flow.proofs.Sums.{weight_falls}
use Rattle.push_flow.specs.Held.{Supply, Task, most, weight, toil, IsHeld, supply_of}
use Rattle.push_flow.specs.Search.{IsScan}
use Rattle.push_flow.specs.Slices.{AreRows}

pub excess_small : (t : Task) (supply : ℕ → Supply) (f e w h : ℕ → ℕ) (v : ℕ)
    → IsHeld t supply f e w h → v < t.graph.nodes → e v ≤ most
excess_small t supply f e w h v s l = let p = total-part t.graph.nodes v e l in let q =
    s.small in omega (arith, p, q)

-- a node that rises to where its arcs with room allow
pub risen : (t : Task) (supply : ℕ → Supply) (start : ℕ → ℕ) (row : ℕ
    → Spoke) (size : ℕ) (f e w h : ℕ → ℕ) (v p least work : ℕ) →
    AreRows t start row size → v < t.graph.nodes → IsScan t supply start row f e w h v p least work
    → start (v + 1) ≤ p → IsHeld t supply f e w (set_at h v least)
risen t supply start row size f e w h v p least work rows lv sc end = record {
  within = s.within;
  balance = s.balance;
  owed = s.owed;
  small = s.small;
  high = λ x l. elim (eqb_tells x v) [ inl q ↦ rw q.0 sc.high | inr q ↦ rw q.0 (s.high x l) ];
  wants = λ x l z. elim (eqb_tells x v) [
    | inl q ↦ absurd
        (let a = s.apart v lv sc.has in let b : 0 < w v = rw q.1 at z in omega (arith, a, b))
    | inr q ↦ rw q.0 (s.wants x l z)
  ];
  apart = s.apart;
  gentle = λ j x y l jo room. elim (eqb_tells x v) [
    | inl q ↦
        (let jv : Joins t.graph j v y = rw q.1 at jo in
        let at = rows.found j v y l lv jv in
        let r : 0 < room_from t.graph t.cap f j v = rw q.1 at room in
        let z = sc.passed (rows.place j v) at.0 (let a = at.1 in omega (arith, a, end))
        (rw at.2 r) in
        let z2 : least ≤ h y + 1 = rw at.3 at z in
        let up = rises y in
        rw q.0 (omega (arith, z2, up)))
    | inr q ↦ (let old = s.gentle j x y l jo room in let up =
        rises y in rw q.0 (omega (arith, old, up)))
  ];
}
  where
    s : IsHeld t supply f e w h
    s = sc.held

    rises : (y : ℕ) → h y ≤ set_at h v least y
    rises y = elim (eqb_tells y v) [
      | inl q ↦ (let a = sc.above in rw (q.0, q.1) (omega (arith, a)))
      | inr q ↦
          rw q.0 (omega arith)
    ]

pub risen_toil : (t : Task) (supply : ℕ → Supply) (start : ℕ → ℕ) (row : ℕ → Spoke) (f e w h : ℕ
    → ℕ) (v p least work : ℕ) →
    v < t.graph.nodes → IsScan t supply start row f e w h v p least work
    → toil t.graph.nodes e (set_at h v least) < work
risen_toil t supply start row f e w h v p least work lv sc =
    let n = t.graph.nodes in
    let new = λ (x : ℕ). weight n (e x) (set_at h v least x) in
    let old = λ (x : ℕ). weight n (e x) (h x) in
    let one = total-one n v new old lv (λ x l ne. rw (set_at-other h v least x ne)) in
    let a = sc.above in
    let b = sc.high in
    let is : h v + (least - h v) ≡ least = omega (arith, a) in
    let falls = weight_falls n (e v) (h v) (least - h v) (omega (arith, is, b))
    (excess_small t supply f e w h v sc.held lv) (omega (arith, a)) in
    let less : new v < old v = rw (set_at-here h v least) (rw is at falls) in
    let work_is = sc.falls in
    omega (arith, one, less, work_is)

pub scan_begins : (t : Task) (supply : ℕ → Supply) (start : ℕ → ℕ) (row : ℕ → Spoke) (f e w h : ℕ
    → ℕ) (v : ℕ) → IsHeld t supply f e w h → 0 < e v → h v < t.graph.nodes
    → IsScan t supply start row f e w h v (start v) t.graph.nodes (toil t.graph.nodes e h)
scan_begins t supply start row f e w h v s has low = record {
  held = s;
  passed = λ q a b. absurd (omega (arith, a, b));
  above = low;
  high = omega arith;
  has = has;
  begun = omega arith;
  falls = omega arith;
}

module _ (t : Task) (supply : ℕ → Supply) (start : ℕ → ℕ) (row : ℕ → Spoke) (f e w h : ℕ → ℕ)
    (v p least work : ℕ) (sc : IsScan t supply start row f e w h v p least work) where
  -- the arc at p allows `lower`
  onward : (lower : ℕ) → lower ≤ least → h v < lower
      → (0 < room_from t.graph t.cap f (row p).arc v → lower ≤ h (row p).far + 1)
      → IsScan t supply start row f e w h v (p + 1) lower work
  onward lower le above here = record {
    held = sc.held;
    passed = λ q a b room. elim (eqb_tells q p) [
      | inl z ↦ rw z.1 (here (rw z.1 at room))
      | inr z ↦ (let n = z.1 in let old =
          sc.passed q a (omega (arith, b, n)) room in omega (arith, old, le))
    ];
    above = above;
    high = (let a = sc.high in omega (arith, a, le));
    has = sc.has;
    begun = (let a = sc.begun in omega (arith, a));
    falls = sc.falls;
  }

  pub scan_skips : least < h (row p).far + 1
      → IsScan t supply start row f e w h v (p + 1) least work
  scan_skips lt = onward least (omega arith) sc.above (λ _. omega (arith, lt))

  pub scan_full : room_from t.graph t.cap f (row p).arc v ≡ 0
      → IsScan t supply start row f e w h v (p + 1) least work
  scan_full z = onward least (omega arith) sc.above (λ r. absurd (omega (arith, z, r)))

  pub scan_lowers : (row p).arc < t.graph.arcs → Joins t.graph (row p).arc v (row p).far
      → 0 < room_from t.graph t.cap f (row p).arc v → h (row p).far + 1 ≤ least
      → h (row p).far + 1 ≢ h v
      → IsScan t supply start row f e w h v (p + 1) (h (row p).far + 1) work
  scan_lowers lk jo room le ne =
      let g = sc.held.gentle (row p).arc v (row p).far lk jo room in
      onward (h (row p).far + 1) le (omega (arith, g, ne)) (λ _. omega arith)

  module _ (step : ℕ) (lk : (row p).arc < t.graph.arcs) (lv : v < t.graph.nodes)
      (lu : (row p).far < t.graph.nodes) (jo : Joins t.graph (row p).arc v (row p).far)
      (down : h v ≡ h (row p).far + 1) (le : step ≤ room_from t.graph t.cap f (row p).arc v)
      (has : step ≤ e v) where
    pub scan_held : IsHeld t supply (flow_then t f (row p).arc v step) (excess_then e w v
        (row p).far step) (want_then w (row p).far step) h
    scan_held = pushed t supply f e w h (row p).arc v (row p).far step sc.held lk lv lu jo down le
        has

    pub scan_toil : 0 < step → toil t.graph.nodes (excess_then e w v (row p).far step) h < work
    scan_toil z =
        (let a = toil_then t supply f e w h (row p).arc v (row p).far step sc.held lk lv lu jo down
        le has z in let b = sc.falls in omega (arith, a, b))

    -- excess is left, so the arc is full
    pub scan_pushes : 0 < step → (step ≡ room_from t.graph t.cap f (row p).arc v) ⊎ (step ≡ e v)
        → 0 < excess_then e w v (row p).far step v →
        IsScan t supply start row (flow_then t f (row p).arc v step)
        (excess_then e w v (row p).far step) (want_then w (row p).far step) h v (p + 1) least
        work
    scan_pushes z all left = record {
      held = scan_held;
      passed = λ q a b room. elim (eqb_tells q p) [
        | inl y ↦ absurd
            (let r : 0 < room_from t.graph t.cap (flow_then t f (row p).arc v step) (row p).arc v =
            rw y.1 at room in omega (arith, r, gone))
        | inr y ↦
            (let n = y.1 in
            sc.passed q a (omega (arith, b, n)) (elim (eqb_tells (row q).arc (row p).arc) [
              | inl x ↦ (let r : 0 < room_from t.graph t.cap (flow_then t f (row p).arc v step)
                  (row p).arc v = rw x.1 at room in absurd (omega (arith, r, gone)))
              | inr x ↦ rw (room_kept t f (row p).arc v step (row q).arc v x.1) at room
            ]))
      ];
      above = sc.above;
      high = sc.high;
      has = left;
      begun = (let a = sc.begun in omega (arith, a));
      falls = (let a = scan_toil z in omega (arith, a));
    }
      where
        gone : room_from t.graph t.cap (flow_then t f (row p).arc v step) (row p).arc v ≡ 0
        gone =
            let r = room_less t supply f e w h (row p).arc v (row p).far step sc.held lk lv lu jo
            down le has in
            let l = excess_left t supply f e w h (row p).arc v (row p).far step sc.held lk lv lu jo
            down le has in
            elim all [ inl x ↦ omega (arith, r, x) | inr x ↦ absurd (omega (arith, l, left, x)) ]

-- a state by its own supply, and back
pub owned : (t : Task) (supply : ℕ → Supply) (f e w h : ℕ → ℕ) → IsHeld t supply f e w h
    → IsHeld t (supply_of t f e w) f e w h
owned t supply f e w h s = record {
  within = s.within;
  balance = λ v l. omega (arith, ints);
  owed = λ v l. omega arith;
  small = s.small;
  high = s.high;
  wants = s.wants;
  apart = s.apart;
  gentle = s.gentle;
}

pub given_back : (t : Task) (supply : ℕ → Supply) (f e w h f' e' w' h' : ℕ → ℕ)
    → IsHeld t supply f e w h → IsHeld t (supply_of t f e w) f' e' w' h'
    → IsHeld t supply f' e' w' h'
given_back t supply f e w h f' e' w' h' s n = record {
  within = n.within;
  balance = λ v l. (let a = s.balance v l in let b = n.balance v l in omega (arith, ints, a, b));
  owed = λ v l. (let a = s.owed v l in let b = n.owed v l in omega (arith, a, b));
  small = n.small;
  high = n.high;
  wants = n.wants;
  apart = n.apart;
  gentle = n.gentle;
}
