-- A breadth first search, step by step.
use Rattle.std.proofs.Common.{◌≡◌, ◌≢◌, inl, inr, ℕ, zero, suc, ◌+◌, ◌-◌, ◌<◌, ◌≤◌, Bool}
use Rattle.std.proofs.Common.{List, length, cond, eqb, refl, sym, ◌∙◌, ap, subst, arith}
use Rattle.std.proofs.lemmas.Bool.Decides.{eqb_tells}
use Rattle.push_flow.specs.declared.push.Spoke.{Spoke}
use Rattle.push_flow.specs.declared.push.Ends.{Ends}
use Rattle.plain_certificates.proofs.Tables.{self_eqb, set_at-here, set_at-other}
use Rattle.plain_certificates.proofs.Totals.{total-le, total-part}
use Rattle.plain_certificates.specs.Rooms.{Joins, room_from, room_to}
use Rattle.plain_certificates.specs.Tables.{set_at}
use Rattle.push_flow.proofs.Lists.{differ}
use Rattle.push_flow.proofs.Sums.{weight_rises}
use Rattle.push_flow.specs.Held.{Supply, Task, weight, toil, IsHeld}
use Rattle.push_flow.specs.Search.{AreRoots, IsWave, IsReach, IsShut}
use Rattle.push_flow.specs.Slices.{task_of, ends_at, AreRows}

-- different numbers below n are at most n
pub pigeons : (n m : ℕ) (q place : ℕ → ℕ) → ((k : ℕ) → k < m → (q k < n) × (place (q k) ≡ k))
    → m ≤ n
pigeons zero zero q place h = omega arith
pigeons zero (suc m) q place h = (let a = (h m (omega arith)).0 in absurd (omega (arith, a)))
pigeons (suc n) zero q place h = omega arith
pigeons (suc n) (suc m) q place h =
    elim (eqb_tells (q (place n)) n) [
      | inl e ↦
          elim (eqb_tells (place n - m) 0) [
            | inl d ↦
                (let at : place n ≤ m = (let z = d.1 in omega (arith, z)) in
                let q' = λ (k : ℕ). cond (eqb k (place n)) (q m) (q k) in
                let place' = λ (v : ℕ). cond (eqb v (q m)) (place n) (place v) in
                let fewer = pigeons n m q' place'
                (λ k l. elim (eqb_tells k (place n)) [
                  | inl x ↦
                      (let off : q m ≢ n = λ z.
                      (let a = (h m (omega arith)).1 in let b : place n ≡ m = ap place (sym z)
                      ∙ a in let c = x.1 in absurd (omega (arith, b, c, l))) in
                      let below = (h m (omega arith)).0 in
                      rw (x.0, self_eqb (q m)) (omega (arith, below, off), sym x.1))
                  | inr x ↦
                      (let here = h k (omega (arith, l)) in
                      let off : q k ≢ n = λ z. x.1 (sym here.1 ∙ ap place z) in
                      let apart : q m ≢ q k = λ z.
                      (let a = (h m (omega arith)).1 in let b = here.1 in let c =
                      ap place z in absurd (omega (arith, a, b, c, l))) in
                      let below = here.0 in
                      rw (x.0, differ (q k) (q m) apart) (omega (arith, below, off), here.1))
                ]) in
                omega (arith, fewer))
            | inr d ↦
                (let z = d.1 in
                let fewer = pigeons n (suc m) q place
                (λ k l. (let here = h k l in
                let off : q k ≢ n = λ y.
                (let b : place n ≡ k = ap place (sym y)
                ∙ here.1 in absurd (omega (arith, z, b, l))) in
                let below = here.0 in
                (omega (arith, below, off), here.1))) in
                omega (arith, fewer))
          ]
      | inr e ↦
          (let fewer = pigeons n (suc m) q place
          (λ k l. (let here = h k l in
          let off : q k ≢ n = λ y. e.1 (ap q (ap place (sym y) ∙ here.1) ∙ y) in
          let below = here.0 in
          (omega (arith, below, off), here.1))) in
          omega (arith, fewer))
    ]

module _ (t : Task) (f e w h₀ h q : ℕ → ℕ) (found head tail : ℕ)
    (wv : IsWave t f e w h₀ h q found head tail) where
  pub tail_small : tail ≤ t.graph.nodes
  tail_small = pigeons t.graph.nodes tail q wv.place wv.listed

  -- a node that wasn't reached is reached over an arc to the node at `head`
  module _ (x : ℕ) (lx : x < t.graph.nodes) (fresh : h x ≡ t.graph.nodes) (inside : head < tail)
      (steep : h₀ x ≤ h₀ (q head) + 1) where
    abbrev place' : ℕ → ℕ
    place' v = cond (eqb v x) tail (wv.place v)

    ne : (k : ℕ) → k < tail → q k ≢ x
    ne k l z = let a = (wv.low k l).1 in let b = ap h z in absurd (omega (arith, a, b, fresh))

    q_old : (k : ℕ) → k < tail → set_at q tail x k ≡ q k
    q_old k l = set_at-other q tail x k (λ z. absurd (omega (arith, z, l)))

    abbrev h' : ℕ → ℕ
    h' = set_at h x (h (q head) + 1)

    h_old : (k : ℕ) → k < tail → h' (q k) ≡ h (q k)
    h_old k l = set_at-other h x (h (q head) + 1) (q k) (ne k l)

    pub room_more : tail < t.graph.nodes
    room_more =
        let m = pigeons t.graph.nodes (tail + 1) (set_at q tail x) place'
        (λ k lt. elim (eqb_tells k tail) [
          | inl z ↦ rw (z.0, z.1, self_eqb x) (lx, refl)
          | inr z ↦
              (let n = z.1 in
              let small : k < tail = omega (arith, lt, n) in
              let here = wv.listed k small in
              rw (z.0, differ (q k) x (λ y. ne k small (sym y))) here)
        ]) in
        omega (arith, m)

    top : h (q head) + 1 < t.graph.nodes
    top = let a = (wv.low head inside).0 in let b = room_more in omega (arith, a, b, inside)

    pub reached : IsWave t f e w h₀ (set_at h x (h (q head) + 1)) (set_at q tail
        x) found head (tail + 1)
    reached = record {
      place = place';
      ordered = (let a = wv.ordered in omega (arith, a));
      listed = λ k lt. elim (eqb_tells k tail) [
        | inl z ↦ rw (z.0, z.1, self_eqb x) (lx, refl)
        | inr z ↦
            (let n = z.1 in
            let small : k < tail = omega (arith, lt, n) in
            let here = wv.listed k small in
            rw (z.0, differ (q k) x (λ y. ne k small (sym y))) here)
      ];
      low = λ k lt. elim (eqb_tells k tail) [
        | inl z ↦ (let a = (wv.low head inside).0 in let b =
            top in rw (z.0, z.1, self_eqb x) (omega (arith, a, inside), b))
        | inr z ↦ (let n = z.1 in let small : k < tail =
            omega (arith, lt, n) in rw (z.0, h_old k small) (wv.low k small))
      ];
      queued = λ v lv lh. elim (eqb_tells v x) [
        | inl z ↦ rw z.0 (omega arith, set_at-here q tail x ∙ sym z.1)
        | inr z ↦
            (let old : h v < t.graph.nodes = rw z.0 at lh in
            let at = wv.queued v lv old in
            let a = at.0 in
            rw z.0 (omega (arith, a), q_old (wv.place v) a ∙ at.1))
      ];
      sorted = λ i j le lt. elim (eqb_tells j tail) [
        | inl z ↦ elim (eqb_tells i tail) [
          | inl y ↦ rw (z.0, y.0) (omega arith)
          | inr y ↦ (let n = y.1 in let m = z.1 in let small : i < tail =
              omega (arith, le, lt, n, m) in rw (z.0, y.0, self_eqb x, h_old i small)
              (wv.span i inside small))
        ]
        | inr z ↦ (let n = z.1 in let small : j < tail =
            omega (arith, lt, n) in let small_i : i < tail =
            omega (arith, le, small) in rw
            (q_old i small_i, q_old j small, h_old i small_i, h_old j small)
            (wv.sorted i j le small))
      ];
      span = λ k _ lt. elim (eqb_tells k tail) [
        | inl z ↦ rw (z.0, self_eqb x, q_old head inside, h_old head inside) (omega arith)
        | inr z ↦ (let n = z.1 in let small : k < tail =
            omega (arith, lt, n) in rw
            (q_old k small, q_old head inside, h_old k small, h_old head inside)
            (wv.span k inside small))
      ];
      done = λ k j y lk lj ly jo room.
          (let small : k < tail = (omega (arith, lk, inside)) in
          let jo' : Joins t.graph j y (q k) = rw (q_old k small) at jo in
          let old = wv.done k j y lk lj ly jo' room in
          rw (
            q_old k small,
            h_old k small,
            set_at-other h x (h (q head) + 1) y
                (λ z. (let a = ap h z in let b = old.1 in absurd (omega (arith, a, b, fresh)))),
          ) old);
      old = λ v lv. elim (eqb_tells v x) [
        | inl z ↦ (let a =
            wv.old (q head) (wv.listed head inside).0 in let b : h₀ v ≤ h₀ (q head) + 1 =
            rw z.1 steep in rw z.0 (omega (arith, a, b)))
        | inr z ↦ rw z.0 (wv.old v lv)
      ];
      high = λ v lv. elim (eqb_tells v x) [
        | inl z ↦ (let b = top in rw z.0 (omega (arith, b)))
        | inr z ↦ rw z.0 (wv.high v lv)
      ];
      wants = λ v lv z.
          (let old = wv.wants v lv z in set_at-other h x (h (q head) + 1) v
          (λ y. (let a = ap h y in absurd (omega (arith, a, old, fresh, lv)))) ∙ old);
      hit = λ l. (let old =
          wv.hit l in rw
          (set_at-other h x (h (q head) + 1) found
          (λ y. (let a = ap h y in let b = old.1 in absurd (omega (arith, a, b, fresh))))) old);
      quiet = λ l k lk.
          (let small : k < tail =
          omega (arith, lk, inside) in rw (q_old k small) (wv.quiet l k lk));
    }

-- an arc with room to u is one with room from its other end
turned : (b d : Bool) (x c : ℕ) → b ≡ d → cond b x (c - x) ≡ cond d x (c - x)
turned b d x c e = ap (λ z. cond z x (c - x)) e

pub room_turned : (t : Task) (f : ℕ → ℕ) (k x u : ℕ) → Joins t.graph k x u → x ≢ u
    → room_to t.graph t.cap f k u ≡ room_from t.graph t.cap f k x
room_turned t f k x u (inl j) ne = rw (j.0, self_eqb x, differ x u (λ z. ne (sym z)))
room_turned t f k x u (inr j) ne = rw (j.0, self_eqb u, differ u x ne)

module _ (t : Task) (supply : ℕ → Supply) (start : ℕ → ℕ) (row : ℕ → Spoke) (size : ℕ)
    (f e w h₀ h q : ℕ → ℕ) (found head tail p : ℕ) (s : IsHeld t supply f e w h₀)
    (rows : AreRows t start row size) (r : IsReach t start row f e w h₀ h q found head tail p)
    (lp : p < start (q head + 1)) where
  pub at_p : ((row p).arc < t.graph.arcs) × ((row p).far < t.graph.nodes)
      × Joins t.graph (row p).arc (q head) (row p).far
  at_p = rows.inside (q head) p (r.wave.listed head r.inside).0 r.begun lp

  -- the other end was reached
  pub reach_old : h (row p).far < t.graph.nodes
      → IsReach t start row f e w h₀ h q found head tail (p + 1)
  reach_old l = record {
    wave = r.wave;
    inside = r.inside;
    begun = (let a = r.begun in omega (arith, a));
    passed = λ i a b room. elim (eqb_tells i p) [
      | inl z ↦
          (let at = r.wave.queued (row p).far at_p.1 l in
          let sp = r.wave.span (r.wave.place (row p).far) r.inside at.0 in
          let up : h (row p).far ≤ h (q head) + 1 = rw at.1 at sp in
          rw z.1 (up, l))
      | inr z ↦ (let n = z.1 in r.passed i a (omega (arith, b, n)) room)
    ];
  }

  -- there is no room to the node
  pub reach_full : room_to t.graph t.cap f (row p).arc (q head) ≡ 0
      → IsReach t start row f e w h₀ h q found head tail (p + 1)
  reach_full none = record {
    wave = r.wave;
    inside = r.inside;
    begun = (let a = r.begun in omega (arith, a));
    passed = λ i a b room. elim (eqb_tells i p) [
      | inl z ↦ absurd
          (let y : 0 < room_to t.graph t.cap f (row p).arc (q head) =
          rw z.1 at room in omega (arith, none, y))
      | inr z ↦ (let n = z.1 in r.passed i a (omega (arith, b, n)) room)
    ];
  }

  module _ (fresh : h (row p).far ≡ t.graph.nodes)
      (room : 0 < room_to t.graph t.cap f (row p).arc (q head)) where
    head_low : h (q head) < t.graph.nodes
    head_low = (r.wave.low head r.inside).1

    off : (row p).far ≢ q head
    off z = let a = ap h z in let b = head_low in absurd (omega (arith, a, b, fresh))

    back : (k x u : ℕ) → Joins t.graph k u x → Joins t.graph k x u
    back k x u (inl j) = inr (j.0, j.1)
    back k x u (inr j) = inl (j.0, j.1)

    steep : h₀ (row p).far ≤ h₀ (q head) + 1
    steep =
        let jo = back (row p).arc (row p).far (q head) at_p.2 in
        s.gentle (row p).arc (row p).far (q head) at_p.0 jo
        (rw (← room_turned t f (row p).arc (row p).far (q head) jo off) room)

    pub reach_more : tail < t.graph.nodes
    reach_more =
        room_more t f e w h₀ h q found head tail r.wave (row p).far at_p.1 fresh r.inside steep

    pub reach_new : IsReach t start row f e w h₀ (set_at h (row p).far (h (q head) + 1)) (set_at q
        tail (row p).far) found head (tail + 1) (p + 1)
    reach_new =
        let q_head : set_at q tail (row p).far head ≡ q head =
        set_at-other q tail (row p).far head
        (λ z. (let a = r.inside in absurd (omega (arith, z, a)))) in
        let h_head : set_at h (row p).far (h (q head) + 1) (q head) ≡ h (q head) =
        set_at-other h (row p).far (h (q head) + 1) (q head) (λ z. off (sym z)) in
        record {
          wave = reached t f e w h₀ h q found head tail r.wave (row p).far at_p.1 fresh r.inside
              steep;
          inside = (let a = r.inside in omega (arith, a));
          begun = (let a = r.begun in rw q_head (omega (arith, a)));
          passed = λ i a b rm.
              (let a' : start (q head) ≤ i = rw q_head at a in
              let rm' : 0 < room_to t.graph t.cap f (row i).arc (q head) = rw q_head at rm in
              let up : h (q head) + 1 < t.graph.nodes =
              (let x = (r.wave.low head r.inside).0 in let y = reach_more in let z =
              r.inside in omega (arith, x, y, z)) in
              rw (q_head, h_head)
              elim (eqb_tells (row i).far (row p).far) [
                | inl z ↦ rw z.0 (omega arith, up)
                | inr z ↦ rw z.0 (elim (eqb_tells i p) [
                  | inl y ↦ absurd (z.1 (ap (λ n. (row n).far) y.1))
                  | inr y ↦ (let n = y.1 in r.passed i a' (omega (arith, b, n)) rm')
                ])
              ]);
        }

-- all arcs to the node were looked at
pub reach_ends : (t : Task) (start : ℕ → ℕ) (row : ℕ → Spoke) (size : ℕ) (f e w h₀ h q : ℕ
    → ℕ) (found head tail p : ℕ) → AreRows t start row size
    → IsReach t start row f e w h₀ h q found head tail p → start (q head + 1) ≤ p
    → (t.graph.nodes ≤ found → e (q head) ≡ 0) →
    IsWave t f e w h₀ h q found (head + 1) tail
reach_ends t start row size f e w h₀ h q found head tail p rows r end here = record {
  place = wv.place;
  ordered = (let a = r.inside in omega (arith, a));
  listed = wv.listed;
  low = wv.low;
  queued = wv.queued;
  sorted = wv.sorted;
  span = λ k lt lk.
      (let a = wv.span k r.inside lk in let b =
      wv.sorted head (head + 1) (omega arith) lt in omega (arith, a, b));
  done = λ k j x lk lj lx jo room. elim (eqb_tells k head) [
    | inr z ↦ (let n = z.1 in wv.done k j x (omega (arith, lk, n)) lj lx jo room)
    | inl z ↦ last j x lj lx (rw z.1 at jo) room (ap (λ i. h (q i)) z.1)
  ];
  old = wv.old;
  high = wv.high;
  wants = wv.wants;
  hit = wv.hit;
  quiet = λ l k lk. elim (eqb_tells k head) [
    | inl z ↦ rw z.1 (here l)
    | inr z ↦ (let n = z.1 in wv.quiet l k (omega (arith, lk, n)))
  ];
}
  where
    wv : IsWave t f e w h₀ h q found head tail
    wv = r.wave

    flip : (j x : ℕ) → Joins t.graph j x (q head) → Joins t.graph j (q head) x
    flip j x (inl a) = inr (a.0, a.1)
    flip j x (inr a) = inl (a.0, a.1)

    all : (j x : ℕ) → j < t.graph.arcs → x < t.graph.nodes → Joins t.graph j x (q head)
        → 0 < room_from t.graph t.cap f j x → (h x ≤ h (q head) + 1) × (h x < t.graph.nodes)
    all j x lj lx jo room = elim (eqb_tells x (q head)) [
      | inl z ↦ (let a = (wv.low head r.inside).1 in rw z.1 (omega arith, a))
      | inr z ↦
          (let at = rows.found j (q head) x lj (wv.listed head r.inside).0 (flip j x jo) in
          let b = at.1 in
          let rm : 0 < room_to t.graph t.cap f j (q head) =
          rw (room_turned t f j x (q head) jo z.1) room in
          let got = r.passed (rows.place j (q head)) at.0 (omega (arith, b, end)) (rw at.2 rm) in
          rw at.3 at got)
    ]

    last : (j x : ℕ) {k : ℕ} → j < t.graph.arcs → x < t.graph.nodes → Joins t.graph j x (q head)
        → 0 < room_from t.graph t.cap f j x → h (q k) ≡ h (q head) → (h x ≤ h (q k) + 1)
        × (h x < t.graph.nodes)
    last j x lj lx jo room is = let a = all j x lj lx jo room in rw is a

-- the end of the search
module _ (t : Task) (supply : ℕ → Supply) (f e w h₀ h q : ℕ → ℕ) (found head tail : ℕ)
    (s : IsHeld t supply f e w h₀) (wv : IsWave t f e w h₀ h q found head tail) (end : tail ≤ head)
  where
    pub wave_shut : IsShut t f h
    wave_shut k x u lk lx lu jo room low =
        let at = wv.queued u lu low in
        let a = at.0 in
        (wv.done (wv.place u) k x (omega (arith, a, end)) lk lx (rw at.1 jo) room).1

    pub wave_held : ((k x u : ℕ) → k < t.graph.arcs → Joins t.graph k x u → (x < t.graph.nodes)
        × (u < t.graph.nodes)) → IsHeld t supply f e w h
    wave_held nodes = record {
      within = s.within;
      balance = s.balance;
      owed = s.owed;
      small = s.small;
      high = wv.high;
      wants = wv.wants;
      apart = s.apart;
      gentle = λ k x u lk jo room.
          (let ln = nodes k x u lk jo in
          let hx = wv.high x ln.0 in
          elim (eqb_tells (t.graph.nodes - h u) 0) [
            | inl z ↦ (let a = z.1 in omega (arith, hx, a))
            | inr z ↦
                (let n = z.1 in
                let at = wv.queued u ln.1 (omega (arith, n)) in
                let a = at.0 in
                let got = (wv.done (wv.place u) k x (omega (arith, a, end)) lk ln.0 (rw at.1 jo)
                room).0 in
                rw at.1 at got)
          ]);
    }

    pub wave_toil : toil t.graph.nodes e h ≤ toil t.graph.nodes e h₀
    wave_toil = total-le t.graph.nodes (λ v. weight t.graph.nodes (e v) (h v))
        (λ v. weight t.graph.nodes (e v) (h₀ v))
        (λ v l. weight_rises t.graph.nodes (e v) (h₀ v) (h v) (wv.old v l) (wv.high v l)
        (let p = total-part t.graph.nodes v e l in let q = s.small in omega (arith, p, q)))

    pub wave_quiet : t.graph.nodes ≤ found → (v : ℕ) → v < t.graph.nodes → h v < t.graph.nodes
        → e v ≡ 0
    wave_quiet l v lv low = let at = wv.queued v lv low in let a = at.0 in let z =
        wv.quiet l (wv.place v) (omega (arith, a, end)) in rw at.1 at z

-- ---- the nodes that want
pub roots_begin : (n : ℕ) (w h q : ℕ → ℕ) → AreRoots n w h q 0 0
roots_begin n w h q = record {
  place = λ x. x;
  ordered = omega arith;
  listed = λ k l. absurd (omega (arith, l));
  wanting = λ x l _. absurd (omega (arith, l));
  others = λ x l _. absurd (omega (arith, l));
}

module _ (n : ℕ) (w h q : ℕ → ℕ) (v tail : ℕ) (r : AreRoots n w h q v tail) where
  pub root_more : 0 < w v → AreRoots n w (set_at h v 0) (set_at q tail v) (v + 1) (tail + 1)
  root_more has = record {
    place = λ x. cond (eqb x v) tail (r.place x);
    ordered = (let a = r.ordered in omega (arith, a));
    listed = λ k l. elim (eqb_tells k tail) [
      | inl z ↦ rw (z.0, z.1, self_eqb v) (omega arith, refl, refl)
      | inr z ↦
          (let m = z.1 in
          let at = r.listed k (omega (arith, l, m)) in
          let a = at.0 in
          let off : q k ≢ v = λ y. absurd (omega (arith, a, y)) in
          rw (z.0, differ (q k) v (λ y. off (sym y))) (omega (arith, a), at.1, at.2))
    ];
    wanting = λ x l z. elim (eqb_tells x v) [
      | inl y ↦ rw y.0 (refl, omega arith, set_at-here q tail v ∙ sym y.1)
      | inr y ↦
          (let m = y.1 in
          let at = r.wanting x (omega (arith, l, m)) z in
          let a = at.1 in
          rw y.0 (
            at.0,
            omega (arith, a),
            set_at-other q tail v (r.place x) (λ d. absurd (omega (arith, d, a))) ∙ at.2,
          ))
    ];
    others = λ x l z. elim (eqb_tells x v) [
      | inl y ↦ absurd (let a : w v ≡ 0 = rw y.1 at z in omega (arith, a, has))
      | inr y ↦ (let m = y.1 in rw y.0 (r.others x (omega (arith, l, m)) z))
    ];
  }

  pub root_else : w v ≡ 0 → AreRoots n w (set_at h v n) q (v + 1) tail
  root_else none = record {
    place = r.place;
    ordered = (let a = r.ordered in omega (arith, a));
    listed = λ k l.
        (let at = r.listed k l in
        let a = at.0 in (
          omega (arith, a),
          at.1,
          set_at-other h v n (q k) (λ y. absurd (omega (arith, a, y)))
              ∙ at.2,
        ));
    wanting = λ x l z. elim (eqb_tells x v) [
      | inl y ↦ absurd (let a : 0 < w v = rw y.1 at z in omega (arith, a, none))
      | inr y ↦ (let m = y.1 in rw y.0 (r.wanting x (omega (arith, l, m)) z))
    ];
    others = λ x l z. elim (eqb_tells x v) [
      | inl y ↦ rw y.0 refl
      | inr y ↦ (let m = y.1 in rw y.0 (r.others x (omega (arith, l, m)) z))
    ];
  }

pub wave_begins : (t : Task) (supply : ℕ → Supply) (f e w h₀ h q : ℕ → ℕ) (found tail : ℕ)
    → IsHeld t supply f e w h₀ → AreRoots t.graph.nodes w h q t.graph.nodes tail
    → t.graph.nodes ≤ found → IsWave t f e w h₀ h q found 0 tail
wave_begins t supply f e w h₀ h q found tail s r none = record {
  place = r.place;
  ordered = omega arith;
  listed = λ k l. (let at = r.listed k l in (at.0, at.1));
  low = λ k l.
      (let at = r.listed k l in let a = at.2 in let b =
      at.0 in (omega (arith, a), omega (arith, a, b)));
  queued = λ v lv lh. (elim (eqb_tells (w v) 0) [
    | inl z ↦ absurd (let a = r.others v lv z.1 in omega (arith, a, lh))
    | inr z ↦ (let m = z.1 in let at = r.wanting v lv (omega (arith, m)) in (at.1, at.2))
  ]);
  sorted = λ i j le l. (let a = (r.listed i (omega (arith, le, l))).2 in omega (arith, a));
  span = λ k a l. (let b = (r.listed k l).2 in omega (arith, b));
  done = λ k j x l lj lx jo room. absurd (omega (arith, l));
  old = λ v lv. (elim (eqb_tells (w v) 0) [
    | inl z ↦ (let a = r.others v lv z.1 in let b = s.high v lv in omega (arith, a, b))
    | inr z ↦ (let m = z.1 in let a = s.wants v lv (omega (arith, m)) in omega (arith, a))
  ]);
  high = λ v lv. (elim (eqb_tells (w v) 0) [
    | inl z ↦ (let a = r.others v lv z.1 in omega (arith, a))
    | inr z ↦ (let m = z.1 in let a = (r.wanting v lv (omega (arith, m))).0 in omega (arith, a))
  ]);
  wants = λ v lv z. (r.wanting v lv z).0;
  hit = λ l. absurd (omega (arith, l, none));
  quiet = λ l k lk. absurd (omega (arith, lk));
}

-- a node with excess is noted
pub wave_noted : (t : Task) (f e w h₀ h q : ℕ → ℕ) (found head tail new : ℕ)
    → IsWave t f e w h₀ h q found head tail → head < tail → (0 < e (q head) → new ≡ q head)
    → (e (q head) ≡ 0 → new ≡ found) →
    IsWave t f e w h₀ h q new head tail × (t.graph.nodes ≤ new → e (q head) ≡ 0)
wave_noted t f e w h₀ h q found head tail new wv lt some none =
    let l = wv.low head lt in
    elim (eqb_tells (e (q head)) 0) [
      | inl z ↦ (let is : new ≡ found = none z.1 in (rw is wv, λ _. z.1))
      | inr z ↦
          (let m = z.1 in
          let has : 0 < e (q head) = omega (arith, m) in
          let is : new ≡ q head = some has in
          let b = l.1 in (
            rw is (record {
              place = wv.place;
              ordered = wv.ordered;
              listed = wv.listed;
              low = wv.low;
              queued = wv.queued;
              sorted = wv.sorted;
              span = wv.span;
              done = wv.done;
              old = wv.old;
              high = wv.high;
              wants = wv.wants;
              hit = λ _. (has, l.1);
              quiet = λ y k lk. absurd (let c = (wv.listed head lt).0 in omega (arith, y, c));
            }),
            λ y. absurd (let c = (wv.listed head lt).0 in omega (arith, y, c, is)),
          ))
    ]

-- the ends of an arc are nodes
pub ends_nodes : (n : ℕ) (ends : List Ends) (cap : List ℕ)
    → ((k : ℕ) → k < length ends → ((ends_at ends k).from < n) × ((ends_at ends k).to < n)) →
    (k x u : ℕ) → k < length ends → Joins (task_of n ends cap).graph k x u → (x < n) × (u < n)
ends_nodes n ends cap h k x u l (inl j) = let a =
    h k l in (subst (λ z. z < n) j.0 a.0, subst (λ z. z < n) j.1 a.1)
ends_nodes n ends cap h k x u l (inr j) = let a =
    h k l in (subst (λ z. z < n) j.1 a.1, subst (λ z. z < n) j.0 a.0)
