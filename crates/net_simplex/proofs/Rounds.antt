-- The endless cycle: down the tree, over the entering arc and up again.
use Rattle.std.proofs.Common.{◌≡◌, ◌≢◌, ℕ, ◌+◌, ◌-◌, ◌<◌, ◌≤◌}
use Rattle.std.proofs.Common.{Bool, true, false, eqb, cond, ℤ, pos, neg_ℤ, ◌+ℤ◌, ◌-ℤ◌, ◌<ℤ◌}
use Rattle.std.proofs.Common.{List, ◌∷◌, length, refl, sym, arith}
use Rattle.std.specs.List.{AllByRecursion}
use Rattle.std.proofs.lemmas.Int.{ints}
use Rattle.std.proofs.lemmas.Bool.Decides.{nat_tests}
use Rattle.std.proofs.lemmas.List.{length-append}
use Rattle.plain_certificates.proofs.Tables.{apart_eqb}
use Rattle.plain_certificates.proofs.Walks.{along-append, walk-append}
use Rattle.plain_certificates.specs.Walks.{IsWalk, along, Differ}
use Rattle.plain_certificates.specs.Rooms.{room_from, room_to}
use Rattle.pivot_flow.specs.declared.look.Leaves.{Leaves}
use Rattle.pivot_flow.proofs.Looking.{fits_after, fits_before, fits_entering}
use Rattle.pivot_flow.proofs.Sending.{arc_one}
use Rattle.pivot_flow.specs.Enter.{MayEnter, enter_room, head_of, tail_of}
use Rattle.pivot_flow.specs.Look.{IsLook}
use Rattle.pivot_flow.specs.Tree.{ComesTo, IsHung, IsLow, IsPriced, Task, Tree}
use Rattle.net_simplex.specs.Cycles.{ups, round_of}
use Rattle.net_simplex.proofs.Ways.{cons_differs, differ-append, down_walk, downs, downs_differ}
use Rattle.net_simplex.proofs.Ways.{downs_each, each-append, length-downs, length-ups, up_walk}
use Rattle.net_simplex.proofs.Ways.{ups_differ, ups_each, ups_reversed}

-- ---- a cycle with more room than any flow: all its arcs are walked as they go and have at least
-- so much room, and it costs less than nothing

lowered : (b : Bool) (x c s : ℕ) → x < s → s ≤ cond b x (c - x) → (b ≡ false) × (s ≤ c)
lowered true x c s l m = absurd (omega (arith, l, m))
lowered false x c s l m = (refl, omega (arith, m))

raised : (b : Bool) (x c s : ℕ) → x < s → s ≤ cond b (c - x) x → (b ≡ true) × (s ≤ c)
raised true x c s l m = (refl, omega (arith, m))
raised false x c s l m = absurd (omega (arith, l, m))

-- what is known of the arcs of the cycle
pub record IsEndlessRound (t : Task) (cost : ℕ → ℤ) (w n endless : ℕ) (arcs : List ℕ) : Type 0
  where
    pub walk : IsWalk t.net w arcs w
    pub negative : along cost arcs <ℤ pos 0
    pub differ : Differ arcs
    pub some : 0 < length arcs
    pub few : length arcs ≤ n + n + 1
    pub each : AllByRecursion (λ k. (k < t.net.arcs) × (endless ≤ t.cap k)) arcs

module _ (t : Task) (cost : ℕ → ℤ) (h : Tree) (f : ℕ → ℕ) (y : ℕ → ℤ) (e : ℕ) (forward : Bool)
    (w step endless n : ℕ) (leaves : Leaves)
    (shape : (k : ℕ) → k < t.net.arcs → (t.net.from k < t.net.nodes) × (t.net.to k < t.net.nodes))
    (s : IsHung t h) (pr : IsPriced t cost h y) (may : MayEnter t cost f y e forward)
    (few : (k : ℕ) → k < t.net.arcs → f k < endless) (le : endless ≤ step)
    (look : IsLook t h f (tail_of t.net e forward) (head_of t.net e forward)
    (enter_room t f e forward) w w step leaves)
    (deep : (v : ℕ) → v < t.net.nodes → h.depth v ≤ n) where
  way : (forward ≡ true) × (endless ≤ t.cap e)
  way =
      let enter = fits_entering leaves step (enter_room t f e forward) look.entering in
      raised forward (f e) (t.cap e) endless (few e may.arc) (omega (arith, enter, le))

  tail_is : tail_of t.net e forward ≡ t.net.from e
  tail_is = rw way.0 refl

  head_is : head_of t.net e forward ≡ t.net.to e
  head_is = rw way.0 refl

  pub over_from : ComesTo h (t.net.from e) w
  over_from = rw tail_is at look.over_a

  pub over_to : ComesTo h (t.net.to e) w
  over_to = rw head_is at look.over_b

  saves : pos 0 <ℤ neg_ℤ ((cost e +ℤ y (t.net.from e)) -ℤ y (t.net.to e))
  saves = rw way.0 at may.saves

  down_arc : (v : ℕ) → IsLow t v → ComesTo h (t.net.from e) v → h.depth w < h.depth v
      → (t.net.from (h.arc v) ≢ v) × (endless ≤ t.cap (h.arc v))
  down_arc v lv ov dv =
      let fit = fits_before h leaves step v (room_to t.net t.cap f (h.arc v) v)
      (look.before v (rw tail_is ov) dv) in
      let low = lowered (eqb (t.net.from (h.arc v)) v) (f (h.arc v)) (t.cap (h.arc v)) endless
      (few (h.arc v) (s.arc v lv)) (omega (arith, fit, le)) in
      ((λ z. not_false (t.net.from (h.arc v)) v z low.0), low.1)
    where
      not_false : (u v : ℕ) → u ≡ v → eqb u v ≡ false → ⊥
      not_false u v e z = grind (arith, nat_tests)

  up_arc : (v : ℕ) → IsLow t v → ComesTo h (t.net.to e) v → h.depth w < h.depth v
      → (t.net.from (h.arc v) ≡ v) × (endless ≤ t.cap (h.arc v))
  up_arc v lv ov dv =
      let fit = fits_after h leaves step v (room_from t.net t.cap f (h.arc v) v)
      (look.after v (rw head_is ov) dv) in
      let high = raised (eqb (t.net.from (h.arc v)) v) (f (h.arc v)) (t.cap (h.arc v)) endless
      (few (h.arc v) (s.arc v lv)) (omega (arith, fit, le)) in
      (is_true (t.net.from (h.arc v)) v high.0, high.1)
    where
      is_true : (u v : ℕ) → eqb u v ≡ true → u ≡ v
      is_true u v z = grind (arith, nat_tests)

  -- the entering arc is none of the tree
  off_tree : (v : ℕ) → IsLow t v → h.arc v ≢ e
  off_tree v lv is =
      let zero_cost = rw is at (pr.zero v lv) in
      let save = saves in
      absurd (omega (arith, ints, zero_cost, save))

  -- no node below w is above both ends
  off_sides : (u v : ℕ) → IsLow t u → IsLow t v → ComesTo h (t.net.from e) u
      → ComesTo h (t.net.to e) v → h.depth w < h.depth u → h.arc u ≢ h.arc v
  off_sides u v lu lv ou ov du is =
      let same = arc_one t h u v s lu lv is in
      let both = look.apart u (rw tail_is ou) (rw (head_is, same) ov) in
      let high = both.0 in
      absurd (omega (arith, high, du))

  from_deep : h.depth (t.net.from e) ≡ h.depth w + (h.depth (t.net.from e) - h.depth w)
  from_deep = let high = over_from.high in omega (arith, high)

  to_deep : h.depth (t.net.to e) ≡ h.depth w + (h.depth (t.net.to e) - h.depth w)
  to_deep = let high = over_to.high in omega (arith, high)

  pub endless_round : IsEndlessRound t cost w n endless (round_of h w (t.net.from e) e (t.net.to e))
  endless_round =
      let i = t.net.from e in
      let j = t.net.to e in
      let di = h.depth i - h.depth w in
      let dj = h.depth j - h.depth w in
      let ends = shape e may.arc in
      let down = downs h di i in
      let up = ups h dj j in
      let way_down = down_walk t cost h y s pr di i w ends.0 over_from from_deep
      (λ v lv ov dv. (down_arc v lv ov dv).0) in
      let way_up = up_walk t cost h y s pr dj j w ends.1 over_to to_deep
      (λ v lv ov dv. (up_arc v lv ov dv).0) in
      let sum = along-append cost down (e ∷ up) in
      let down_sum = way_down.1 in
      let up_sum = way_up.1 in
      let save = saves in
      let all = length-append down (e ∷ up) in
      let down_all = length-downs h di i in
      let up_all = length-ups h dj j in
      let deep_i = deep i ends.0 in
      let deep_j = deep j ends.1 in
      rw (ups_reversed h di i) (record {
        walk = walk-append t.net w i w down (e ∷ up) way_down.0
            (may.arc, refl, way_up.0);
        negative = omega (arith, ints, sum, down_sum, up_sum, save);
        differ = differ-append down (e ∷ up) (downs_differ t h s di i w ends.0 over_from from_deep)
            (cons_differs e up
            (ups_each t h s (λ k. eqb e k ≡ false) dj j w ends.1 over_to to_deep
            (λ v lv ov dv. apart_eqb e (h.arc v) (λ is. off_tree v lv (sym is))))
            (ups_differ t h s dj j w ends.1 over_to to_deep))
            (downs_each t h s (λ k. AllByRecursion (λ l. eqb k l ≡ false) (e ∷ up)) di i w ends.0
            over_from from_deep
            (λ u lu ou du. (
              apart_eqb (h.arc u) e (off_tree u lu),
              ups_each t h s (λ l. eqb (h.arc u) l ≡ false) dj j w ends.1 over_to to_deep
                  (λ v lv ov dv. apart_eqb (h.arc u) (h.arc v) (off_sides u v lu lv ou ov du)),
            )));
        some = omega (arith, all);
        few = omega (arith, all, down_all, up_all, deep_i, deep_j);
        each = each-append (λ k. (k < t.net.arcs) × (endless ≤ t.cap k)) down (e ∷ up)
            (downs_each t h s (λ k. (k < t.net.arcs) × (endless ≤ t.cap k)) di i w ends.0 over_from
            from_deep (λ v lv ov dv. (s.arc v lv, (down_arc v lv ov dv).1))) (
              (may.arc, way.1),
              ups_each t h s (λ k. (k < t.net.arcs) × (endless ≤ t.cap k)) dj j w ends.1 over_to
                  to_deep (λ v lv ov dv. (s.arc v lv, (up_arc v lv ov dv).1)),
            );
      })
