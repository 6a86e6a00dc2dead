-- The added items of a valid snapshot are erased, one after the other.
use Rattle.std.proofs.Common.{◌≡◌, ℕ, ◌+◌, ◌-◌, Bool, true, false, not, nat_le, ◌&&◌, ◌==◌}
use Rattle.std.proofs.Common.{if◌then◌else◌}
use Rattle.std.proofs.Common.{IsTrue, List, [], ◌∷◌, map, Contains, Some, refl, sym, ap}
use Rattle.std.proofs.Common.{subst, ◌∙◌, arith}
use Rattle.std.proofs.lemmas.Grind.{common_steps}
use Rattle.std.specs.Prelude.{◌||◌}
use Rattle.base_items.specs.declared.items.Fact.{Fact}
use Rattle.base_items.specs.declared.items.ItemSort.TheVariants as sorts
use Rattle.plain_digraph.specs.Lists.{AllOf, first, all_but_first}
use Rattle.plain_digraph.specs.Facts.{fact_id}
use Rattle.plain_digraph.specs.Rising.{without_item}
use Rattle.plain_digraph.specs.Items.{IsLive, out_arcs, in_arcs, source_of, target_of}
use Rattle.plain_digraph.specs.PlainSteps.{PlainStep, EraseArc, EraseNode}
use Rattle.plain_digraph.specs.ValidLaws.{HasNoArc}
use Rattle.plain_digraph.proofs.StepOrders.{all_listed_are_own}
use Rattle.observe_core.specs.declared.losses.Loss.TheVariants.{Erase}
use Rattle.observe_core.specs.Items.{has_id, number_id, rises_from}
use Rattle.observe_core.specs.Held.{Held, Nothing, Values, Degree, Half, Kept, Ties, IsHeldSound}
use Rattle.observe_core.specs.Saved.{saved, saved_of}
use Rattle.observe_core.specs.Fits.{HeldFits}
use Rattle.observe_core.specs.Told.{held_erased}
use Rattle.observe_core.proofs.ItemLemmas.{and_right, all_at, rises-lacks, without-lacks}
use Rattle.notify_chain.specs.Seats.{AllSeats, Steady}
use Rattle.alter_graph.specs.declared.snaps.SnapKeys.{SnapKeys}
use Rattle.alter_graph.specs.Present.{Present, present_of, fact_at}
use Rattle.alter_graph.specs.Snaps.{IsHalf, kept_of, added_of, saved_by, is_valid, node_half}
use Rattle.alter_graph.specs.Snaps.{arc_half, IsSnap, Follows}
use Rattle.alter_graph.specs.State.{State, IsInStep}
use Rattle.alter_graph.specs.Steps.{Loses, took}
use Rattle.alter_graph.specs.Outcome.{Goes}
use Rattle.alter_graph.proofs.Gathered.{source_is, target_is}
use Rattle.alter_graph.proofs.Listing.{has_live, live_id, live_contained, told_bounded, facts_live}
use Rattle.alter_graph.proofs.Parting.{goes_both}
use Rattle.alter_graph.proofs.Saving.{added_out, held_next, still_next, sound_at}
use Rattle.alter_graph.proofs.Following.{fits_at}
use Rattle.alter_graph.proofs.Keeping.{held_same}

-- ---- one half

added_lives : (h : Held) (id : ℕ) (live : List Fact) → HeldFits h live
    → first (added_of h) ≡ Some id → IsTrue (has_id fact_id id live)
added_lives Nothing id live fits e = cc
added_lives (Values t es) id live fits e = cc
added_lives (Degree out ends) id live fits e = cc
added_lives (Half [] others k v) id live fits e = cc
added_lives (Half (i ∷ a) others k v) id live fits e =
    let m : i ≡ id = cc in subst (λ j. IsTrue (has_id fact_id j live)) m fits.among.0
added_lives (Kept role all items) id live fits e = cc
added_lives (Ties ties) id live fits e = cc

added_apart : (h : Held) (id : ℕ) (live : List Fact) → first (added_of h) ≡ Some id
    → has_id fact_id id (saved_of h live) ≡ false
added_apart Nothing id live e = cc
added_apart (Values t es) id live e = cc
added_apart (Degree out ends) id live e = cc
added_apart (Half [] others k v) id live e = cc
added_apart (Half (i ∷ a) others k v) id live e =
    let m : i ≡ id = cc in
    let t : has_id number_id id (i ∷ a) ≡ true = grind (arith, common_steps, m) in
    added_out (i ∷ a) k id live t
added_apart (Kept role all items) id live e = cc
added_apart (Ties ties) id live e = cc

-- the first added item is no more among them once it is erased
next_added : (h : Held) (f : Fact) (id : ℕ) → IsHeldSound h → first (added_of h) ≡ Some id
    → f.id ≡ id → added_of (held_erased f h) ≡ all_but_first (added_of h)
next_added Nothing f id sound e m = cc
next_added (Values t es) f id sound e m = cc
next_added (Degree out ends) f id sound e m = cc
next_added (Half [] others k v) f id sound e m = cc
next_added (Half (i ∷ a) others k v) f id sound e m =
    let n : i ≡ id = cc in
    let same : f.id ≡ i = m ∙ sym n in
    let q : (i == f.id) ≡ true = grind (arith, common_steps, same) in
    let t : has_id number_id f.id (i ∷ a) ≡ true =
    ap (λ b. if b then true else has_id number_id f.id a) q in
    let b = and_right (nat_le 0 i) (rises_from number_id (i + 1) a) sound.0 in
    let lacks = rises-lacks number_id (i + 1) i a b (omega arith) in
    ap (λ b. added_of (if b then
    Half (without_item number_id f.id (i ∷ a)) others (without_item fact_id f.id k) v
    else Half (i ∷ a) (others - 1) (without_item fact_id f.id k) false)) t
    ∙ ap (λ b. if b then without_item number_id f.id a else i ∷ without_item number_id f.id a) q
    ∙ ap (λ j. without_item number_id j a) same
    ∙ without-lacks number_id i a lacks
next_added (Kept role all items) f id sound e m = cc
next_added (Ties ties) f id sound e m = cc

-- a half without added items and kept facts saves what is there
saved_none : (live : List Fact) → saved [] [] live ≡ live
saved_none [] = refl
saved_none (f ∷ fs) = ap (λ l. f ∷ l) (saved_none fs)

pub all_saved : (h : Held) (live : List Fact) → IsHalf h → added_of h ≡ [] → kept_of h ≡ []
    → saved_of h live ≡ live
all_saved Nothing live half a k = absurd half
all_saved (Values t es) live half a k = absurd half
all_saved (Degree out ends) live half a k = absurd half
all_saved (Half added others kept valid) live half a k =
    (λ i. saved (a i) (k i) live) ∙ saved_none live
all_saved (Kept role all items) live half a k = absurd half
all_saved (Ties ties) live half a k = absurd half

-- ---- one item

module _ (s : State) (h : IsInStep s) (k : SnapKeys) (there : Contains s.chains.snaps k) where
  abbrev p : Present
  p = present_of s.graph

  pub snap : IsSnap p s.chains k
  snap = all_at (IsSnap p s.chains) k s.chains.snaps h.seats.snaps.each there

  -- a step that takes nothing of the copy leaves the snapshot as it was
  module _ (step : PlainStep) (t : State) (goes : Goes (step ∷ []) s t) where
    pub still_there : Contains t.chains.snaps k
    still_there = subst (λ l. Contains l k) (sym goes.snaps.names) there

    flag_stays : (IsTrue (is_valid k s.chains)) → (b : Bool) → b ≡ false
        → is_valid k t.chains ≡ is_valid k s.chains && not (b || false)
        → IsTrue (is_valid k t.chains)
    flag_stays v b none flag =
        flag ∙ ap (λ x. is_valid k s.chains && not (x || false)) none
        ∙ ap (λ x. x && true) v

    one : Follows (step ∷ []) p s.chains (present_of t.graph) t.chains k
    one = all_at (Follows (step ∷ []) p s.chains (present_of t.graph) t.chains) k s.chains.snaps
        goes.snaps.each there

  module _ (steady : AllSeats Steady s.chains.arcs.seats) (id : ℕ)
      (next : first (added_of (arc_half k s.chains)) ≡ Some id) where
    pub arc_lives : IsLive s.graph sorts.Arc id
    arc_lives = has_live s.graph sorts.Arc h.valid id (added_lives (arc_half k s.chains) id p.arcs
        (fits_at p.stamps p.arcs k.arcs.0 s.chains.arcs.seats h.seats.arcs) next)

    module _ (t : State) (goes : Goes (EraseArc id ∷ []) s t) where
      pub valid_without_arc : IsTrue (is_valid k s.chains) → IsTrue (is_valid k t.chains)
      valid_without_arc v = flag_stays (EraseArc id) t goes v
          (has_id fact_id id (saved_by k p s.chains).arcs)
          (added_apart (arc_half k s.chains) id p.arcs next) (one (EraseArc id) t goes).flag

      arc_half_now : arc_half k t.chains
          ≡ held_erased (fact_at s.graph sorts.Arc id) (arc_half k s.chains)
      arc_half_now =
          held_same k.arcs.0 (took (EraseArc id) s).chains.arcs.seats t.chains.arcs.seats
          goes.took.chains.arcs.seats
          ∙ held_next (Loses (Erase (fact_at s.graph sorts.Arc id))) p.arcs (
            facts_live s.graph sorts.Arc h.valid,
            (
              live_contained s.graph sorts.Arc h.valid id arc_lives,
              told_bounded s.graph sorts.Arc h.valid id arc_lives,
            ),
          ) k.arcs.0 s.chains.arcs.seats
          snap.arcs.kind

      pub fewer_arcs_added : added_of (arc_half k t.chains)
          ≡ all_but_first (added_of (arc_half k s.chains))
      fewer_arcs_added = ap added_of arc_half_now
          ∙ next_added (arc_half k s.chains) (fact_at s.graph sorts.Arc id) id
          (sound_at k.arcs.0 s.chains.arcs.seats steady) next
          (live_id s.graph sorts.Arc h.valid id arc_lives)

      pub still_back : kept_of (arc_half k s.chains) ≡ [] → kept_of (arc_half k t.chains) ≡ []
      still_back b = ap kept_of arc_half_now
          ∙ still_next (Loses (Erase (fact_at s.graph sorts.Arc id))) (arc_half k s.chains) tt
          snap.arcs.half b

      pub same_node_half : node_half k t.chains ≡ node_half k s.chains
      same_node_half = held_same k.nodes.0 s.chains.nodes.seats t.chains.nodes.seats
          goes.took.chains.nodes.seats

  module _ (steady : AllSeats Steady s.chains.nodes.seats) (id : ℕ)
      (next : first (added_of (node_half k s.chains)) ≡ Some id) where
    pub node_lives : IsLive s.graph sorts.Node id
    node_lives = has_live s.graph sorts.Node h.valid id
        (added_lives (node_half k s.chains) id p.nodes
        (fits_at p.stamps p.nodes k.nodes.0 s.chains.nodes.seats h.seats.nodes) next)

    not_saved : has_id fact_id id (saved_by k p s.chains).nodes ≡ false
    not_saved = added_apart (node_half k s.chains) id p.nodes next

    -- where each arc is one of the copy, none is at an added node
    module _ (v : IsTrue (is_valid k s.chains)) (no_arcs : added_of (arc_half k s.chains) ≡ [])
        (back : kept_of (arc_half k s.chains) ≡ []) where
      abbrev HasSavedEnds : Fact → Type 0
      HasSavedEnds f = IsTrue (has_id fact_id f.from (saved_by k p s.chains).nodes)
          × IsTrue (has_id fact_id f.to (saved_by k p s.chains).nodes)

      ends : AllOf HasSavedEnds p.arcs
      ends = subst (AllOf HasSavedEnds)
          (all_saved (arc_half k s.chains) p.arcs snap.arcs.half no_arcs back) (snap.ends v)

      no : (i : ℕ) → i ≡ id → IsTrue (has_id fact_id i (saved_by k p s.chains).nodes) → ⊥
      no i e has =
          let t : true ≡ false = sym has
          ∙ ap (λ j. has_id fact_id j (saved_by k p s.chains).nodes) e ∙ not_saved in
          cc

      own : (arc : ℕ) → (live : IsLive s.graph sorts.Arc arc)
          → HasSavedEnds (fact_at s.graph sorts.Arc arc)
      own arc live = all_at HasSavedEnds (fact_at s.graph sorts.Arc arc) p.arcs ends
          (live_contained s.graph sorts.Arc h.valid arc live)

      none_out : (arcs : List ℕ)
          → AllOf (λ arc. IsLive s.graph sorts.Arc arc × (source_of s.graph arc ≡ id)) arcs
          → arcs ≡ []
      none_out [] all = refl
      none_out (arc ∷ arcs) all = absurd (no (fact_at s.graph sorts.Arc arc).from
          (source_is s.graph arc h.valid all.0.0 ∙ all.0.1) (own arc all.0.0).0)

      none_in : (arcs : List ℕ)
          → AllOf (λ arc. IsLive s.graph sorts.Arc arc × (target_of s.graph arc ≡ id)) arcs
          → arcs ≡ []
      none_in [] all = refl
      none_in (arc ∷ arcs) all = absurd (no (fact_at s.graph sorts.Arc arc).to
          (target_is s.graph arc h.valid all.0.0 ∙ all.0.1) (own arc all.0.0).1)

      pub stands_alone : HasNoArc s.graph id
      stands_alone =
          let listed = all_listed_are_own s.graph id h.valid in
          (none_out (out_arcs s.graph id) listed.0, none_in (in_arcs s.graph id) listed.1)

    module _ (t : State) (goes : Goes (EraseNode id ∷ []) s t) where
      pub valid_without_node : IsTrue (is_valid k s.chains) → IsTrue (is_valid k t.chains)
      valid_without_node v = flag_stays (EraseNode id) t goes v
          (has_id fact_id id (saved_by k p s.chains).nodes) not_saved
          (one (EraseNode id) t goes).flag

      node_half_now : node_half k t.chains
          ≡ held_erased (fact_at s.graph sorts.Node id) (node_half k s.chains)
      node_half_now =
          held_same k.nodes.0 (took (EraseNode id) s).chains.nodes.seats t.chains.nodes.seats
          goes.took.chains.nodes.seats
          ∙ held_next (Loses (Erase (fact_at s.graph sorts.Node id))) p.nodes (
            facts_live s.graph sorts.Node h.valid,
            (
              live_contained s.graph sorts.Node h.valid id node_lives,
              told_bounded s.graph sorts.Node h.valid id node_lives,
            ),
          ) k.nodes.0 s.chains.nodes.seats
          snap.nodes.kind

      pub fewer_nodes_added : added_of (node_half k t.chains)
          ≡ all_but_first (added_of (node_half k s.chains))
      fewer_nodes_added = ap added_of node_half_now
          ∙ next_added (node_half k s.chains) (fact_at s.graph sorts.Node id) id
          (sound_at k.nodes.0 s.chains.nodes.seats steady) next
          (live_id s.graph sorts.Node h.valid id node_lives)

      pub same_arc_half : arc_half k t.chains ≡ arc_half k s.chains
      same_arc_half = held_same k.arcs.0 s.chains.arcs.seats t.chains.arcs.seats
          goes.took.chains.arcs.seats

-- one of them, and then the rest
pub one_node_more : (node : ℕ) (nodes rest : List ℕ) (s t u : State) → nodes ≡ node ∷ rest
    → Goes (EraseNode node ∷ []) s t → Goes (map EraseNode rest) t u
    → Goes (map EraseNode nodes) s u
one_node_more node nodes rest s t u e p q =
    subst (λ l. Goes (map EraseNode l) s u) (sym e)
    (goes_both (EraseNode node ∷ []) (map EraseNode rest) s t u p q)
