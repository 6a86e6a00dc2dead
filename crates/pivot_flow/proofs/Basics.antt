-- Arcs of a tree make no round, so that the flow of a state is basic.
use Rattle.std.proofs.Common.{ℤ, ◌≡◌, ◌⊎◌, inl, inr, ℕ, ◌<◌, ◌≤◌, Bool, true, false, eqb, cond}
use Rattle.std.proofs.Common.{List, [], ◌∷◌, All, pos, ◌<ℤ◌, refl, sym, ◌∙◌, ap, arith}
use Rattle.std.specs.List.{AllByRecursion, IsDistinct}
use Rattle.std.proofs.lemmas.Int.{ints}
use Rattle.std.proofs.lemmas.List.Elements.{All-head, All-tail}
use Rattle.plain_certificates.specs.Numbered.{Numbered}
use Rattle.plain_certificates.specs.Walks.{Pace, pace_from, pace_to, IsTrail, arcs_of, Differ}
use Rattle.plain_certificates.specs.Cheapest.{IsBasic}
use Rattle.plain_certificates.specs.Rooms.{Joins, as_flow}
use Rattle.plain_certificates.proofs.Tables.{self_eqb}
use Rattle.pivot_flow.specs.Tree.{IsHeld, IsHung, IsLow, IsTreeArc, Task, Tree}
use Rattle.pivot_flow.specs.State.{cap_bounds}
use Rattle.pivot_flow.proofs.Bools.{true_not_false}

-- one of the paces is over the arc
abbrev IsAmong : ℕ → List Pace → Type 0
IsAmong k [] = ⊥
IsAmong k (s ∷ ss) = (s.arc ≡ k) ⊎ IsAmong k ss

-- no arc comes twice
abbrev AreDifferent : List Pace → Type 0
AreDifferent [] = Unit {0}
AreDifferent (s ∷ ss) = (IsAmong s.arc ss → ⊥) × AreDifferent ss

none_again : (k : ℕ) (ss : List Pace) → AllByRecursion (λ arc. eqb k arc ≡ false) (arcs_of ss)
    → IsAmong k ss → ⊥
none_again k [] off q = q
none_again k (s ∷ ss) off (inl e) =
    let here : eqb k k ≡ false = rw e at off.0 in true_not_false (sym (self_eqb k) ∙ here)
none_again k (s ∷ ss) off (inr q) = none_again k ss off.1 q

differ_each : (ss : List Pace) → Differ (arcs_of ss) → AreDifferent ss
unfolding IsDistinct
differ_each [] d = tt
differ_each (s ∷ ss) d = (none_again s.arc ss d.0, differ_each ss d.1)

all_among : (P : ℕ → Type 0) (ss : List Pace) → All P (arcs_of ss) → (k : ℕ) → IsAmong k ss → P k
all_among P [] all k q = absurd q
all_among P (s ∷ ss) all k (inl e) = rw (← e) (All-head P s.arc (arcs_of ss) all)
all_among P (s ∷ ss) all k (inr q) = all_among P ss (All-tail P s.arc (arcs_of ss) all) k q

-- a step over a tree arc goes up from the node that hangs by it, or down to it
abbrev Goes : Numbered → Tree → ℕ → ℕ → ℕ → Type 0
Goes g h w u v = ((u ≡ w) × (v ≡ h.parent w)) ⊎ ((u ≡ h.parent w) × (v ≡ w))

goes : (g : Numbered) (h : Tree) (w k : ℕ) (b : Bool) → Joins g k w (h.parent w)
    → Goes g h w (cond b (g.from k) (g.to k)) (cond b (g.to k) (g.from k))
goes g h w k true (inl j) = inl (j.0, j.1)
goes g h w k true (inr j) = inr (j.0, j.1)
goes g h w k false (inl j) = inr (j.1, j.0)
goes g h w k false (inr j) = inl (j.1, j.0)

among_same : (j k : ℕ) (ss : List Pace) → j ≡ k → IsAmong j ss → IsAmong k ss
among_same j k ss e x = rw (← e) x

module _ (t : Task) (h : Tree) (s : IsHung t h) where
  step_of : (p : Pace) → IsTreeArc t h p.arc → (w : ℕ)
      × (IsLow t w × ((h.arc w ≡ p.arc) × Goes t.net h w (pace_from t.net p) (pace_to t.net p)))
  step_of p q =
      (q.0, (q.1.0, (q.1.1, goes t.net h q.0 p.arc p.onward (ap_joins q.1.1 (s.joins q.0 q.1.0)))))
    where
      ap_joins : {k j : ℕ} → k ≡ j → Joins t.net k q.0 (h.parent q.0)
          → Joins t.net j q.0 (h.parent q.0)
      ap_joins e x = rw (← e) x

  -- what has come down by the arc of v goes down on
  downward : (ss : List Pace) (v z : ℕ) → IsLow t v → ((k : ℕ) → IsAmong k ss → IsTreeArc t h k)
      → (IsAmong (h.arc v) ss → ⊥) → AreDifferent ss → IsTrail t.net v ss z →
      (h.depth v ≤ h.depth z) × (IsLow t z × ((h.arc z ≡ h.arc v) ⊎ IsAmong (h.arc z) ss))
  downward [] v z lv trees off diff trail = rw (← trail) (omega arith, (lv, inl refl))
  downward (p ∷ ss) v z lv trees off diff trail =
      let st = step_of p (trees p.arc (inl refl)) in
      let w = st.0 in
      elim (st.1.1.1) [
        | inl up ↦ absurd (off (inl (sym st.1.1.0 ∙ ap h.arc (sym up.0 ∙ trail.1))))
        | inr down ↦
            (let is : h.parent w ≡ v = sym down.0 ∙ trail.1 in
            let rest : IsTrail t.net w ss z = rw down.1 at trail.2 in
            let on = downward ss w z st.1.0 (λ k q. trees k (inr q))
            (λ q. diff.0 (among_same (h.arc w) p.arc ss st.1.1.0 q)) diff.1 rest in
            let fall = s.falls w st.1.0 in
            let same = ap h.depth is in
            let deep = on.0 in (
              omega (arith, fall, same, deep),
              (on.1.0, inr (elim on.1.1 [ inl e ↦ inl (sym (e ∙ st.1.1.0)) | inr e ↦ inr e ])),
            ))
      ]

  -- a trail of tree arcs ends higher, or comes down to its end
  ends_low : (p : Pace) (ss : List Pace) (u z : ℕ)
      → ((k : ℕ) → IsAmong k (p ∷ ss) → IsTreeArc t h k) → AreDifferent (p ∷ ss)
      → IsTrail t.net u (p ∷ ss) z →
      (h.depth z < h.depth u) ⊎ (IsLow t z × IsAmong (h.arc z) (p ∷ ss))
  ends_low p [] u z trees diff trail =
      let st = step_of p (trees p.arc (inl refl)) in
      let w = st.0 in
      elim (st.1.1.1) [
        | inl up ↦ inl (let fall = s.falls w st.1.0 in let a = ap h.depth (sym trail.1 ∙ up.0) in
            let b = ap h.depth (sym trail.2 ∙ up.1) in omega (arith, fall, a, b))
        | inr down ↦ (let is : z ≡ w = sym trail.2
            ∙ down.1 in inr (rw is st.1.0, inl (sym st.1.1.0 ∙ ap h.arc (sym is))))
      ]
  ends_low p (q ∷ ss) u z trees diff trail =
      let st = step_of p (trees p.arc (inl refl)) in
      let w = st.0 in
      elim (st.1.1.1) [
        | inl up ↦
            (let fall = s.falls w st.1.0 in
            let a = ap h.depth (sym trail.1 ∙ up.0) in
            let b = ap h.depth up.1 in
            elim (ends_low q ss (pace_to t.net p) z (λ k x. trees k (inr x)) diff.1 trail.2) [
              | inl lt ↦ inl (omega (arith, fall, a, b, lt))
              | inr x ↦ inr (x.0, inr x.1)
            ])
        | inr down ↦
            (let rest : IsTrail t.net w (q ∷ ss) z = rw down.1 at trail.2 in
            let on = downward (q ∷ ss) w z st.1.0 (λ k x. trees k (inr x))
            (λ x. diff.0 (among_same (h.arc w) p.arc (q ∷ ss) st.1.1.0 x)) diff.1 rest in
            inr (on.1.0, elim on.1.1 [ inl e ↦ inl (sym (e ∙ st.1.1.0)) | inr e ↦ inr e ]))
      ]

  -- tree arcs make no round
  pub no_round : (p : Pace) (ss : List Pace) (u : ℕ)
      → ((k : ℕ) → IsAmong k (p ∷ ss) → IsTreeArc t h k) → AreDifferent (p ∷ ss)
      → IsTrail t.net u (p ∷ ss) u → ⊥
  no_round p ss u trees diff trail =
      let st = step_of p (trees p.arc (inl refl)) in
      let w = st.0 in
      elim (st.1.1.1) [
        | inl up ↦
            (let fall = s.falls w st.1.0 in
            let is : u ≡ w = sym trail.1 ∙ up.0 in
            let same = ap h.depth is in
            let b = ap h.depth up.1 in
            after ss (pace_to t.net p) u diff.1 trail.2 (λ k x. trees k (inr x))
            (omega (arith, fall, same, b))
            (λ x. diff.0 (among_same (h.arc u) p.arc ss (ap h.arc is ∙ st.1.1.0) x)))
        | inr down ↦
            (let rest : IsTrail t.net w ss u = rw down.1 at trail.2 in
            let on = downward ss w u st.1.0 (λ k x. trees k (inr x))
            (λ x. diff.0 (among_same (h.arc w) p.arc ss st.1.1.0 x)) diff.1 rest in
            let fall = s.falls w st.1.0 in
            let same = ap h.depth (sym down.0 ∙ trail.1) in
            let deep = on.0 in
            absurd (omega (arith, fall, same, deep)))
      ]
    where
      after : (ss : List Pace) (v u : ℕ) → AreDifferent ss → IsTrail t.net v ss u
          → ((k : ℕ) → IsAmong k ss → IsTreeArc t h k) → h.depth v < h.depth u
          → (IsAmong (h.arc u) ss → ⊥) → ⊥
      after [] v u d tr ts lt off = (let e = ap h.depth tr in absurd (omega (arith, e, lt)))
      after (q ∷ ss) v u d tr ts lt off =
          elim (ends_low q ss v u ts d tr) [
            | inl x ↦ absurd (omega (arith, x, lt))
            | inr x ↦
                off x.1
          ]

-- ---- the flow of a state is basic
inside : (g : Numbered) (ss : List Pace) (u z k : ℕ) → IsTrail g u ss z → IsAmong k ss → k < g.arcs
inside g [] u z k tr q = absurd q
inside g (p ∷ ss) u z k tr (inl e) = rw (← e) tr.0
inside g (p ∷ ss) u z k tr (inr q) = inside g ss (pace_to g p) z k tr.2 q

pub basic_state : (t : Task) (supply other : ℕ → ℤ) (h : Tree) (f : ℕ → ℕ) → IsHung t h
    → IsHeld t supply h f → IsBasic t.net (cap_bounds t other) (as_flow f)
basic_state t supply other h f s held u [] some diff between trail = absurd (omega (arith, some))
basic_state t supply other h f s held u (p ∷ ss) some diff between trail =
    no_round t h s p ss u
    (λ k q.
    (let here = all_among (λ arc. (pos 0 <ℤ pos (f arc)) × (pos (f arc) <ℤ pos (t.cap arc)))
    (p ∷ ss) between k q in
    let more = here.0 in
    let less = here.1 in
    elim (held.rest k (inside t.net (p ∷ ss) u u k trail q)) [
      | inl (inl z) ↦ absurd (omega (arith, ints, more, z))
      | inl (inr z) ↦ absurd (omega (arith, ints, less, z))
      | inr z ↦ z
    ]))
    (differ_each (p ∷ ss) diff) trail
