-- One pace more of a round along which something is sent.
use Rattle.std.proofs.Common.{◌≡◌, inl, inr, ℕ, ◌+◌, ◌-◌, ◌*◌, ◌<◌, ◌≤◌, ◌^◌, Bool, true, false}
use Rattle.std.proofs.Common.{not, cond, eqb, ℤ, pos, neg_ℤ, ◌+ℤ◌, List, [], ◌∷◌, All, length, ap}
use Rattle.std.proofs.Common.{refl, sym, ◌∙◌, subst, arith}
use Rattle.std.specs.List.{AllByRecursion, IsDistinct}
use Rattle.std.proofs.Math.ListN.{set, length-set}
use Rattle.std.proofs.lemmas.Int.{ints}
use Rattle.std.proofs.lemmas.Bool.Decides.{eqb_tells, nat_tests}
use Rattle.std.proofs.lemmas.List.Elements.{All-head, All-tail, All-cons}
use Rattle.plain_certificates.proofs.Tables.{at-set}
use Rattle.plain_certificates.specs.Numbered.{Numbered}
use Rattle.plain_certificates.specs.Pushes.{by_pace, pushed}
use Rattle.plain_certificates.specs.Rooms.{as_flow}
use Rattle.plain_certificates.specs.Tables.{at, set_at}
use Rattle.plain_certificates.specs.Walks.{Differ, arcs_of}
use Rattle.pace_search.proofs.PaceWalks.{arc_known}
use Rattle.pace_search.specs.Paces.{pace_at, paces_at}
use Rattle.task_bounds.proofs.Filled.{set_here, set_other}
use Rattle.flow_mincost.specs.Pushing.{IsMoving}
use Rattle.flow_mincost.specs.Rooms.{IsWithin, raises, room, signed}

-- ---- one arc

-- what is within the room can be moved
pub moved_fits : (b : Bool) (c x s : ℕ) → x ≤ c → c ≤ 2 ^ 62 → s ≤ cond b (c - x) x
    → cond b (x + s ≤ 2 ^ 62) (s ≤ x)
moved_fits true c x s within few l = omega (arith, within, few, l)
moved_fits false c x s within few l = l

moved_within : (b : Bool) (c x s : ℕ) → x ≤ c → s ≤ cond b (c - x) x
    → cond b (x + s) (x - s) ≤ c
moved_within true c x s within l = omega (arith, within, l)
moved_within false c x s within l = omega (arith, within, l)

-- as a change with a sign
moved_by : (ahead onward : Bool) (c x s : ℕ)
    → s ≤ cond (cond ahead onward (not onward)) (c - x) x
    → pos (cond (cond ahead onward (not onward)) (x + s) (x - s))
    ≡ pos x +ℤ cond onward (signed ahead s) (neg_ℤ (signed ahead s))
moved_by true true c x s l = omega (arith, ints)
moved_by true false c x s l = omega (arith, ints, l)
moved_by false true c x s l = omega (arith, ints, l)
moved_by false false c x s l = omega (arith, ints)

pos_cond : (b : Bool) (x y : ℕ) → pos (cond b x y) ≡ cond b (pos x) (pos y)
pos_cond true x y = refl
pos_cond false x y = refl

flow_set : (xs : List ℕ) (a x : ℕ) (z : ℤ) → a < length xs → pos x ≡ z
    → as_flow (at 0 (set xs a x)) ≡ set_at (as_flow (at 0 xs)) a z
flow_set xs a x z l is =
    ap as_flow (at-set 0 xs a x l)
    ∙ (λ i j. (pos_cond (eqb j a) x (at 0 xs j)
    ∙ ap (λ y. cond (eqb j a) y (pos (at 0 xs j))) is) i)

turned_eqb : (a b : ℕ) → eqb a b ≡ false → eqb b a ≡ false
turned_eqb a b e = grind (arith, nat_tests, e)

module _ (g : Numbered) (cap : List ℕ) (ahead : Bool) (step : ℕ) where
  abbrev HasRoom : List ℕ → ℕ → Type 0
  HasRoom now k = step ≤ room (at 0 cap) (at 0 now) ahead (pace_at g k)

  -- over other arcs the rooms stay
  rooms_kept : (now : List ℕ) (a x : ℕ) → a < length now → (rest : List ℕ)
      → AllByRecursion (λ b. eqb a b ≡ false) (arcs_of (paces_at g rest))
      → All (HasRoom now) rest → All (HasRoom (set now a x)) rest
  rooms_kept now a x l [] off all = λ k d q. absurd (omega (arith, q))
  rooms_kept now a x l (j ∷ rest) off all =
      let p = pace_at g j in
      let same = set_other 0 now a p.arc x l (turned_eqb a p.arc off.0) in
      let here : HasRoom now j = All-head (HasRoom now) j rest all in
      All-cons (HasRoom (set now a x)) j rest
      (subst (λ y. step ≤ cond (raises ahead p) (at 0 cap p.arc - y) y) (sym same) here)
      (rooms_kept now a x l rest off.1 (All-tail (HasRoom now) j rest all))

  within_set : (now : List ℕ) (a x : ℕ) → a < g.arcs → x ≤ at 0 cap a → IsWithin g cap now
      → IsWithin g cap (set now a x)
  within_set now a x l less was =
      let all = was.all in
      let inside : a < length now = omega (arith, l, all) in
      record {
        caps_all = was.caps_all;
        all = length-set now a x ∙ was.all;
        few = was.few;
        within = λ k q. elim (eqb_tells k a) [
          | inl e ↦ subst (λ j. at 0 (set now a x) j ≤ at 0 cap j) (sym e.1)
              (subst (λ y. y ≤ at 0 cap a) (sym (set_here 0 now a x inside)) less)
          | inr e ↦ subst (λ y. y ≤ at 0 cap k) (sym (set_other 0 now a k x inside e.0))
              (was.within k q)
        ];
      }

  split_differ : (a : ℕ) (arcs : List ℕ) → Differ (a ∷ arcs)
      → AllByRecursion (λ b. eqb a b ≡ false) arcs × Differ arcs
  unfolding IsDistinct
  split_differ a arcs differ = differ

  -- what is next is sent
  pub moving_next : (round rest old now : List ℕ) (k x : ℕ)
      → IsMoving g cap ahead step round (k ∷ rest) old now
      → x ≡ cond (raises ahead (pace_at g k)) (at 0 now (pace_at g k).arc + step)
      (at 0 now (pace_at g k).arc - step)
      → IsMoving g cap ahead step round rest old (set now (pace_at g k).arc x)
  moving_next round rest old now k x was x_is =
      let p = pace_at g k in
      let a = p.arc in
      let known = All-head (λ j. j < 2 * g.arcs) k rest was.known in
      let l : a < g.arcs = arc_known g k known in
      let all = was.within.all in
      let inside : a < length now = omega (arith, l, all) in
      let has : HasRoom now k = All-head (HasRoom now) k rest was.roomy in
      let apart = split_differ a (arcs_of (paces_at g rest)) was.differ in
      let by = moved_by ahead p.onward (at 0 cap a) (at 0 now a) step has in
      let fits = moved_within (raises ahead p) (at 0 cap a) (at 0 now a) step
      (was.within.within a l) has in
      record {
        within = within_set now a x l (subst (λ y. y ≤ at 0 cap a) (sym x_is) fits) was.within;
        known = All-tail (λ j. j < 2 * g.arcs) k rest was.known;
        differ = apart.1;
        roomy = rooms_kept now a x inside rest apart.0
            (All-tail (HasRoom now) k rest was.roomy);
        flow = ap (pushed (signed ahead step) (paces_at g rest))
            (flow_set now a x (pos (at 0 now a) +ℤ by_pace p (signed ahead step)) inside
            (ap pos x_is ∙ by))
            ∙ was.flow;
      }

  pub moving_fits : (round rest old now : List ℕ) (k : ℕ)
      → IsMoving g cap ahead step round (k ∷ rest) old now
      → cond (raises ahead (pace_at g k)) (at 0 now (pace_at g k).arc + step ≤ 2 ^ 62)
      (step ≤ at 0 now (pace_at g k).arc)
  moving_fits round rest old now k was =
      let p = pace_at g k in
      let l = arc_known g k (All-head (λ j. j < 2 * g.arcs) k rest was.known) in
      moved_fits (raises ahead p) (at 0 cap p.arc) (at 0 now p.arc) step
      (was.within.within p.arc l) (was.within.few p.arc l)
      (All-head (HasRoom now) k rest was.roomy)
