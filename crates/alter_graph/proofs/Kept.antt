-- What a valid snapshot keeps can be placed back.
use Rattle.std.proofs.Common.{◌≡◌, ◌≢◌, ℕ, zero, suc, ◌+◌, Bool, true, false, nat_le, ◌==◌, cond}
use Rattle.std.proofs.Common.{if◌then◌else◌, IsTrue, List, [], ◌∷◌, map, Contains, Option}
use Rattle.std.proofs.Common.{Some, refl, sym, ap, subst, ◌∙◌, arith}
use Rattle.std.proofs.lemmas.Grind.{common_steps}
use Rattle.std.proofs.lemmas.Bool.{eq-eqb, ne_eqb}
use Rattle.std.specs.List.{range_with_len}
use Rattle.base_items.specs.declared.items.Fact.{Fact}
use Rattle.base_items.specs.declared.items.ItemSort.TheVariants as sorts
use Rattle.plain_digraph.specs.Lists.{AllOf}
use Rattle.plain_digraph.specs.Facts.{fact_id}
use Rattle.plain_digraph.specs.Rising.{swapped}
use Rattle.plain_digraph.specs.Digraph.{Digraph}
use Rattle.plain_digraph.specs.Items.{IsLive, fact_of, facts}
use Rattle.plain_digraph.specs.Steps.{place}
use Rattle.plain_digraph.specs.PlainSteps.{PlaceBack}
use Rattle.plain_digraph.proofs.Rows.{fact_of-id}
use Rattle.plain_digraph.proofs.StepTold.{placed_tells}
use Rattle.plain_digraph.proofs.StepLiving.{live_items_stay}
use Rattle.plain_digraph.proofs.Tellings.{told_swapped}
use Rattle.plain_digraph.proofs.SameLists.{facts_are_whole}
use Rattle.observe_core.specs.Items.{Lacks, HoldsOnly, has_id, number_id, rises_from}
use Rattle.observe_core.specs.Held.{Held, Nothing, Values, Degree, Half, Kept, Ties, IsHeldSound}
use Rattle.observe_core.specs.Saved.{was_of, saved, saved_of}
use Rattle.observe_core.specs.Fits.{HeldFits, IsKept}
use Rattle.observe_core.proofs.ItemLemmas.{and_right, all_more, all_at, contains-has, holds_only}
use Rattle.observe_core.proofs.ItemLemmas.{lacks-not_has, rises-lacks}
use Rattle.notify_chain.specs.Seats.{AllSeats, Steady}
use Rattle.alter_graph.specs.declared.snaps.SnapKeys.{SnapKeys}
use Rattle.alter_graph.specs.Chains.{ChainsSeen}
use Rattle.alter_graph.specs.Present.{Present, present_of, fact_at}
use Rattle.alter_graph.specs.Snaps.{kept_of, saved_by, is_valid, node_half, arc_half, saved_arcs}
use Rattle.alter_graph.specs.Snaps.{Apart, AllApart, IsBelow, IsSnap}
use Rattle.alter_graph.specs.State.{State, IsInStep}
use Rattle.alter_graph.specs.Steps.{CanReturn, CanTakeAll, HaveOwnPlaces}
use Rattle.alter_graph.specs.Room.{nodes_in, arcs_in}
use Rattle.alter_graph.specs.Restoring.{places}
use Rattle.alter_graph.proofs.Apart.{apart_back, all-swapped}
use Rattle.alter_graph.proofs.Listing.{all_in, has_live, live_told}
use Rattle.alter_graph.proofs.Saving.{sound_at, was_id}
use Rattle.alter_graph.proofs.Following.{fits_at, all_left, all_right}

was_only : (k : List Fact) (f g : Fact) → g.id ≡ f.id → HoldsOnly fact_id f k
    → IsTrue (has_id fact_id f.id k) → was_of k g ≡ f
was_only [] f g e h t = cc
was_only (x ∷ xs) f g e h t =
    elim (x.id == f.id) as (λ b. (x.id == f.id) ≡ b
    → IsTrue (if b then true else has_id fact_id f.id xs) → was_of (x ∷ xs) g ≡ f) [
      | true ↦ λ q u.
          let o : (x.id == g.id) ≡ true = grind (arith, common_steps, q, e) in
          ap (λ b. if b then x else was_of xs g) o ∙ h.0 (grind (arith, common_steps, q))
      | false ↦ λ q u.
          let o : (x.id == g.id) ≡ false = grind (arith, common_steps, q, e) in
          ap (λ b. if b then x else was_of xs g) o ∙ was_only xs f g e h.1 u
    ] refl t

module _ (a : List ℕ) (k : List Fact) where
  saved_has : (i : ℕ) (live : List Fact) → IsTrue (has_id fact_id i (saved a k live))
      → IsTrue (has_id fact_id i live)
  saved_has i [] h = h
  saved_has i (g ∷ gs) h =
      elim (has_id number_id g.id a) as (λ t.
      IsTrue (has_id fact_id i (if t then saved a k gs else was_of k g ∷ saved a k gs))
      → IsTrue (if g.id == i then true else has_id fact_id i gs)) [
        | true ↦ λ u. let r =
            saved_has i gs
            u in elim (g.id == i) as (λ b. IsTrue (if b then true else has_id fact_id i gs))
            [ true ↦ refl | false ↦ r ]
        | false ↦ subst
            (λ n. IsTrue (if n == i then true else has_id fact_id i (saved a k gs))
            → IsTrue (if g.id == i then true else has_id fact_id i gs)) (sym (was_id k g))
            (elim (g.id == i) as (λ b. IsTrue (if b then true else has_id fact_id i (saved a k gs))
            → IsTrue (if b then true else has_id fact_id i gs)) [
              | true ↦ λ u. refl
              | false ↦
                  λ u. saved_has i gs u
            ])
      ] h

  rest_all : (P : Fact → Type 0) (t : Bool) (y : Fact) (xs : List Fact)
      → AllOf P (if t then xs else y ∷ xs) → AllOf P xs
  rest_all P true y xs h = h
  rest_all P false y xs h = h.1

  -- what holds of all that is saved holds of a kept fact
  kept_at : (P : Fact → Type 0) (f : Fact) (live : List Fact) → AllOf P (saved a k live)
      → IsTrue (has_id fact_id f.id live) → Lacks number_id f.id a → HoldsOnly fact_id f k
      → IsTrue (has_id fact_id f.id k) → P f
  kept_at P f [] h t l o c = cc
  kept_at P f (g ∷ gs) h t l o c =
      elim (g.id == f.id) as (λ b. (g.id == f.id) ≡ b
      → IsTrue (if b then true else has_id fact_id f.id gs) → P f) [
        | true ↦ λ q u.
            let e : g.id ≡ f.id = grind (arith, common_steps, q) in
            let n : has_id number_id g.id a ≡ false = ap (λ i. has_id number_id i a) e
            ∙ lacks-not_has number_id f.id a l in
            let here : AllOf P (was_of k g ∷ saved a k gs) =
            subst (λ t. AllOf P (if t then saved a k gs else was_of k g ∷ saved a k gs)) n h in
            subst P (was_only k f g e o c) here.0
        | false ↦ λ q u.
            kept_at P f gs (rest_all P (has_id number_id g.id a) (was_of k g) (saved a k gs) h) u l
            o c
      ] refl t

-- what holds of the copy holds of the kept facts
pub kept_in : (P : Fact → Type 0) (h : Held) (live : List Fact) → HeldFits h live → IsHeldSound h
    → AllOf P (saved_of h live) → AllOf P (kept_of h)
kept_in P Nothing live fits sound all = tt
kept_in P (Values t es) live fits sound all = tt
kept_in P (Degree out ends) live fits sound all = tt
kept_in P (Half a others k valid) live fits sound all =
    all_in P k (λ f c. let m =
    all_at (IsKept a live) f k fits.moved c in kept_at a k P f live all m.live_id m.older
    (holds_only fact_id 0 f k sound.1 c) (contains-has fact_id f k c))
kept_in P (Kept role all_new items) live fits sound all = tt
kept_in P (Ties ties) live fits sound all = tt

-- a kept fact's item is live, and has another fact now
pub kept_moved_on : (h : Held) (live : List Fact) → HeldFits h live
    → AllOf (λ f. IsTrue (has_id fact_id f.id live) × AllOf (λ g. g ≢ f) live) (kept_of h)
kept_moved_on Nothing live fits = tt
kept_moved_on (Values t es) live fits = tt
kept_moved_on (Degree out ends) live fits = tt
kept_moved_on (Half a others k valid) live fits =
    all_more (λ f m. (m.live_id, m.moved)) k fits.moved
kept_moved_on (Kept role all items) live fits = tt
kept_moved_on (Ties ties) live fits = tt

kept_rises : (h : Held) → IsHeldSound h → IsTrue (rises_from fact_id 0 (kept_of h))
kept_rises Nothing sound = refl
kept_rises (Values t es) sound = refl
kept_rises (Degree out ends) sound = refl
kept_rises (Half a others k valid) sound = sound.1
kept_rises (Kept role all items) sound = refl
kept_rises (Ties ties) sound = refl

-- a node of the copy is live
pub copied_lives : (h : Held) (i : ℕ) (live : List Fact)
    → IsTrue (has_id fact_id i (saved_of h live)) → IsTrue (has_id fact_id i live)
copied_lives Nothing i live t = cc
copied_lives (Values t es) i live u = cc
copied_lives (Degree out ends) i live t = cc
copied_lives (Half a others k valid) i live t = saved_has a k i live t
copied_lives (Kept role all items) i live t = cc
copied_lives (Ties ties) i live t = cc

-- ---- a snapshot that is there and valid

module _ (P : Fact → Type 0) (g : Present) (c : ChainsSeen) (k : SnapKeys)
    (v : IsTrue (is_valid k c)) where
  pub copy_among : (ks : List SnapKeys) → Contains ks k → AllOf P (saved_arcs ks g c)
      → AllOf P (saved_by k g c).arcs
  copy_among [] m h = absurd (let l = m.1 in omega (arith, l))
  copy_among (j ∷ ks) (zero, l, e) h =
      let q : j ≡ k = e in
      let here : AllOf P (if is_valid j c then (saved_by j g c).arcs else []) =
      all_left P (if is_valid j c then (saved_by j g c).arcs else []) (saved_arcs ks g c) h in
      subst (λ b. AllOf P (if b then (saved_by k g c).arcs else [])) v
      (subst (λ j. AllOf P (if is_valid j c then (saved_by j g c).arcs else [])) q here)
  copy_among (j ∷ ks) (suc n, l, e) h =
      copy_among ks (n, omega (arith, l), e)
      (all_right P (if is_valid j c then (saved_by j g c).arcs else []) (saved_arcs ks g c) h)

-- each of one list beside all of the other
pub turn_rows : (xs ys : List Fact) → AllApart xs ys → AllApart ys xs
turn_rows xs [] h = tt
turn_rows xs (y ∷ ys) h = (
  all_more (λ x r. apart_back x y r.0) xs h,
  turn_rows xs ys (all_more (λ x r. r.1) xs h),
)

-- ---- the arcs go back, one after the other

-- the present facts after an arc was placed back
placed_next : (g : Digraph) (fact was : Fact) → fact_of g sorts.Arc fact.id ≡ Some was
    → facts (place g fact) sorts.Arc ≡ swapped fact_id fact (facts g sorts.Arc)
placed_next g fact was told =
    let old : ℕ → Option Fact = fact_of g sorts.Arc in
    let after : ℕ → Option Fact = fact_of (place g fact) sorts.Arc in
    let tells = placed_tells g fact in
    told_swapped old after (fact_of-id g sorts.Arc) fact.id
    (λ x other. tells.arcs x ∙ ap (λ b. cond b (Some fact) (old x)) (ne_eqb x fact.id other))
    was fact told
    (tells.arcs fact.id
    ∙ ap (λ b. cond b (Some fact) (old fact.id)) (eq-eqb fact.id fact.id refl))
    refl (range_with_len 0 g.used_arcs)

-- the arc of the fact is told of
abbrev pub IsTold : Digraph → Fact → Type 0
IsTold g fact = (was : Fact) × (fact_of g sorts.Arc fact.id ≡ Some was)

-- and it may go back
abbrev pub MayReturn : Digraph → Fact → Type 0
MayReturn g fact = IsTold g fact × CanReturn fact g

-- what is told of the others stays
pub told_after : (g : Digraph) (f h : Fact) → h.id ≢ f.id
    → fact_of (place g f) sorts.Arc h.id ≡ fact_of g sorts.Arc h.id
told_after g f h other =
    (placed_tells g f).arcs h.id
    ∙ ap (λ b. cond b (Some f) (fact_of g sorts.Arc h.id)) (ne_eqb h.id f.id other)

-- it still may after another arc went back
may_after : (g : Digraph) (f h : Fact) → MayReturn g f → (h.id ≢ f.id) → Apart h f
    → MayReturn g h → MayReturn (place g f) h
may_after g f h first other apart may =
    let same = told_after g f h other in
    let a = may.1.old_source in
    let b = may.1.old_target in (
      (may.0.0, same ∙ may.0.1),
      record {
        arc = live_items_stay g (PlaceBack f) sorts.Arc h.id refl may.1.arc;
        source = live_items_stay g (PlaceBack f) sorts.Node h.from refl may.1.source;
        target = live_items_stay g (PlaceBack f) sorts.Node h.to refl may.1.target;
        old_source = omega (arith, a);
        old_target = omega (arith, b);
        apart = subst (AllOf (Apart h)) (sym (placed_next g f first.0.0 first.0.1))
            (all-swapped (Apart h) f (facts g sorts.Arc) apart may.1.apart);
        differs = λ e. may.1.differs (sym same ∙ e);
      },
    )

pub lacks_each : (i : ℕ) (fs : List Fact) → Lacks fact_id i fs → AllOf (λ h. h.id ≢ i) fs
lacks_each i [] h = tt
lacks_each i (f ∷ fs) h = (h.0, lacks_each i fs h.1)

all_may_after : (g : Digraph) (f : Fact) (fs : List Fact) → MayReturn g f
    → AllOf (λ h. h.id ≢ f.id) fs → AllOf (λ h. Apart h f) fs → AllOf (MayReturn g) fs
    → AllOf (MayReturn (place g f)) fs
all_may_after g f [] first other apart may = tt
all_may_after g f (h ∷ fs) first other apart may = (
  may_after g f h first other.0 apart.0 may.0,
  all_may_after g f fs first other.1 apart.1 may.1,
)

can_place : (low : ℕ) (kept : List Fact) (g : Digraph) → IsTrue (rises_from fact_id low kept)
    → AllOf (MayReturn g) kept → AllApart kept kept → CanTakeAll (map PlaceBack kept) g
can_place low [] g rise may apart = tt
can_place low (f ∷ kept) g rise may apart =
    let b = and_right (nat_le low f.id) (rises_from fact_id (f.id + 1) kept) rise in
    let lacks = rises-lacks fact_id (f.id + 1) f.id kept b (omega arith) in (
      may.0.1,
      can_place (f.id + 1) kept (place g f) b
          (all_may_after g f kept may.0 (lacks_each f.id kept lacks)
          (all_more (λ h r. r.0) kept apart.1) may.1)
          (all_more (λ h r. r.1) kept apart.1),
    )

own_places : (kept : List Fact) (s : State)
    → AllApart kept (saved_arcs s.chains.snaps (present_of s.graph) s.chains)
    → HaveOwnPlaces (map PlaceBack kept) s
own_places [] s h = tt
own_places (f ∷ kept) s h = (h.0, own_places kept s h.1)

-- ---- of a valid snapshot

module _ (s : State) (h : IsInStep s) (k : SnapKeys) (there : Contains s.chains.snaps k)
    (v : IsTrue (is_valid k s.chains)) (steady : AllSeats Steady s.chains.arcs.seats) where
  abbrev p : Present
  p = present_of s.graph

  abbrev kept : List Fact
  kept = kept_of (arc_half k s.chains)

  abbrev old : List Fact
  old = saved_arcs s.chains.snaps p s.chains

  fits : HeldFits (arc_half k s.chains) p.arcs
  fits = fits_at p.stamps p.arcs k.arcs.0 s.chains.arcs.seats h.seats.arcs

  sound : IsHeldSound (arc_half k s.chains)
  sound = sound_at k.arcs.0 s.chains.arcs.seats steady

  -- what holds of all copies holds of the kept facts
  among : (P : Fact → Type 0) → AllOf P old → AllOf P kept
  among P all = kept_in P (arc_half k s.chains) p.arcs fits sound
      (copy_among P p s.chains k v s.chains.snaps there all)

  -- their places are those of no other arc
  kept_own : AllApart kept old
  kept_own = among (λ f. AllOf (Apart f) old) h.seats.snaps.stamps.copies

  abbrev HasLiveEnds : Fact → Type 0
  HasLiveEnds f = IsLive s.graph sorts.Node f.from × IsLive s.graph sorts.Node f.to

  kept_ends : AllOf HasLiveEnds kept
  kept_ends =
      let snap = all_at (IsSnap p s.chains) k s.chains.snaps h.seats.snaps.each there in
      let lives : (i : ℕ) → IsTrue (has_id fact_id i (saved_by k p s.chains).nodes)
      → IsLive s.graph sorts.Node i = λ i t. has_live s.graph sorts.Node h.valid i
      (copied_lives (node_half k s.chains) i p.nodes t) in
      all_more (λ f e. (lives f.from e.0, lives f.to e.1)) kept
      (kept_in (λ f. IsTrue (has_id fact_id f.from (saved_by k p s.chains).nodes)
      × IsTrue (has_id fact_id f.to (saved_by k p s.chains).nodes)) (arc_half k s.chains) p.arcs
      fits sound (snap.ends v))

  may_return : (fs : List Fact) → AllOf (λ f. AllOf (Apart f) p.arcs) fs → AllOf HasLiveEnds fs
      → AllOf (IsBelow p.stamps) fs
      → AllOf (λ f. IsTrue (has_id fact_id f.id p.arcs) × AllOf (λ g. g ≢ f) p.arcs) fs
      → AllOf (MayReturn s.graph) fs
  may_return [] a e l m = tt
  may_return (f ∷ fs) a e l m =
      let live = has_live s.graph sorts.Arc h.valid f.id m.0.0 in (
        (
          (fact_at s.graph sorts.Arc f.id, live_told s.graph sorts.Arc h.valid f.id live),
          record {
            arc = live;
            source = e.0.0;
            target = e.0.1;
            old_source = l.0.0;
            old_target = l.0.1;
            apart = a.0;
            differs = λ told. all_at (λ g. g ≢ f) f p.arcs m.0.1
                ((facts_are_whole s.graph sorts.Arc f h.valid).1 told) refl;
          },
        ),
        may_return fs a.1 e.1 l.1 m.1,
      )

  -- and they can be placed back
  pub kept_can : CanTakeAll (places k s.chains) s.graph
  kept_can =
      let stamps = h.seats.snaps.stamps in
      let apart = among (λ f. AllOf (Apart f) p.arcs) (turn_rows p.arcs old stamps.across) in
      let low = among (IsBelow p.stamps) stamps.copies_below in
      let gone = kept_moved_on (arc_half k s.chains) p.arcs fits in
      can_place 0 kept s.graph (kept_rises (arc_half k s.chains) sound)
      (may_return kept apart kept_ends low gone)
      (all_more (λ f a. among (Apart f) a) kept kept_own)

  pub kept_told : AllOf (IsTold s.graph) kept
  kept_told = all_more
      (λ f m. (
        fact_at s.graph sorts.Arc f.id,
        live_told s.graph sorts.Arc h.valid f.id (has_live s.graph sorts.Arc h.valid f.id m.0),
      )) kept (kept_moved_on (arc_half k s.chains) p.arcs fits)

  pub kept_have : HaveOwnPlaces (places k s.chains) s
  kept_have = own_places kept s kept_own

-- ---- room

pub no_nodes : (kept : List Fact) → nodes_in (map PlaceBack kept) ≡ 0
no_nodes [] = refl
no_nodes (f ∷ kept) = let r = no_nodes kept in omega (arith, r)

pub no_arcs : (kept : List Fact) → arcs_in (map PlaceBack kept) ≡ 0
no_arcs [] = refl
no_arcs (f ∷ kept) = let r = no_arcs kept in omega (arith, r)
