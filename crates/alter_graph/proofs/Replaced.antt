-- Once all arcs that a half keeps are placed back, it keeps nothing.
use Rattle.std.proofs.Common.{◌≡◌, ◌≢◌, ℕ, ◌+◌, Bool, true, false, nat_le, ◌==◌, if◌then◌else◌}
use Rattle.std.proofs.Common.{IsTrue, List, [], ◌∷◌, map, Contains, refl, ap, ◌∙◌, arith}
use Rattle.std.proofs.lemmas.Grind.{common_steps}
use Rattle.std.specs.Prelude.{not, ◌&&◌}
use Rattle.std.specs.List.{list_any}
use Rattle.std.proofs.Common.{sym, subst}
use Rattle.std.specs.Option.{option_map_or}
use Rattle.base_items.specs.declared.items.Fact.{Fact}
use Rattle.base_items.specs.declared.items.ItemSort.TheVariants as sorts
use Rattle.plain_digraph.specs.Lists.{AllOf}
use Rattle.plain_digraph.specs.Facts.{fact_id}
use Rattle.plain_digraph.specs.Rising.{with_item, without_item}
use Rattle.plain_digraph.specs.Digraph.{Digraph}
use Rattle.plain_digraph.specs.Items.{fact_of, node_fact}
use Rattle.plain_digraph.specs.PlainSteps.{PlaceBack}
use Rattle.plain_digraph.proofs.Rows.{fact_of-id}
use Rattle.observe_core.specs.declared.changes.Change.TheVariants.{Shift}
use Rattle.observe_core.specs.Changes.{told}
use Rattle.observe_core.specs.Facts.{has_fact}
use Rattle.observe_core.specs.Items.{has_id, number_id, rises_from}
use Rattle.observe_core.specs.Held.{Held, Nothing, Values, Degree, Half, Kept, Ties, IsHeldSound}
use Rattle.observe_core.specs.Fits.{HeldFits}
use Rattle.observe_core.specs.Told.{held_shifted, kept_moved}
use Rattle.observe_core.proofs.ItemLemmas.{and_right, all_more, rises-lacks, without-lacks}
use Rattle.observe_core.proofs.ItemLemmas.{lacks-not_has, all_at}
use Rattle.observe_core.proofs.KeptLemmas.{same-self}
use Rattle.notify_chain.specs.Seats.{AllSeats, Steady}
use Rattle.alter_graph.specs.declared.snaps.SnapKeys.{SnapKeys}
use Rattle.alter_graph.specs.Present.{present_of, fact_at}
use Rattle.alter_graph.specs.Snaps.{held_at, IsHalf, kept_of, arc_half, is_valid, IsSnap}
use Rattle.alter_graph.specs.Snaps.{node_half, added_of, Saved, saved_by, takes_from, Follows}
use Rattle.alter_graph.specs.Chains.{ChainSeen}
use Rattle.alter_graph.specs.State.{State, IsSame, IsInStep, SnapsFollow}
use Rattle.alter_graph.specs.Steps.{took, altered}
use Rattle.alter_graph.specs.Restoring.{places}
use Rattle.alter_graph.proofs.Saving.{heard_held, sound_at}
use Rattle.alter_graph.proofs.Following.{fits_at}
use Rattle.alter_graph.proofs.Keeping.{held_same}
use Rattle.alter_graph.proofs.Kept.{IsTold, told_after, lacks_each, kept_told}

-- a move to the first kept fact gives it up
given_up : (old f : Fact) (ks : List Fact) → old.id ≡ f.id
    → IsTrue (rises_from fact_id (f.id + 1) ks) → kept_moved old f (f ∷ ks) ≡ ks
given_up old f ks e rise =
    let q : (f.id == old.id) ≡ true = grind (arith, common_steps, e) in
    let a : has_id fact_id old.id (f ∷ ks) ≡ true =
    ap (λ b. if b then true else has_id fact_id old.id ks) q in
    let c : has_fact f (f ∷ ks) ≡ true =
    ap (λ b. if b then true else has_fact f ks) (same-self f) in
    let d : without_item fact_id old.id (f ∷ ks) ≡ ks =
    ap (λ b. if b then without_item fact_id old.id ks else f ∷ without_item fact_id old.id ks) q
    ∙ ap (λ i. without_item fact_id i ks) e
    ∙ without-lacks fact_id f.id ks (rises-lacks fact_id (f.id + 1) f.id ks rise (omega arith)) in
    ap (λ b. if b then
    (if has_fact f (f ∷ ks) then without_item fact_id old.id (f ∷ ks) else f ∷ ks)
    else with_item fact_id old (f ∷ ks)) a
    ∙ ap (λ b. if b then without_item fact_id old.id (f ∷ ks) else f ∷ ks) c ∙ d

told_id : (g : Digraph) (f : Fact) → IsTold g f → (fact_at g sorts.Arc f.id).id ≡ f.id
told_id g f h =
    ap (λ o. (option_map_or (λ fact. fact) o (node_fact 0 0)).id) h.1
    ∙ fact_of-id g sorts.Arc f.id h.0 h.1

all_told_after : (g : Digraph) (f : Fact) (fs : List Fact) → AllOf (λ h. h.id ≢ f.id) fs
    → AllOf (IsTold g) fs → (h : Digraph) → ((x : Fact) → x.id ≢ f.id
    → fact_of h sorts.Arc x.id ≡ fact_of g sorts.Arc x.id) → AllOf (IsTold h) fs
all_told_after g f [] other all h same = tt
all_told_after g f (x ∷ fs) other all h same = (
  (all.0.0, same x other.0 ∙ all.0.1),
  all_told_after g f fs other.1 all.1 h same,
)

-- all are given up, one after the other
module _ (key : ℕ) (a : List ℕ) (others : ℕ) (valid : Bool) where
  kept_placed : (low : ℕ) (ks : List Fact) (s : State)
      → held_at key s.chains.arcs.seats ≡ Half a others ks valid
      → IsTrue (rises_from fact_id low ks) → AllOf (λ f. has_id number_id f.id a ≡ false) ks
      → AllOf (IsTold s.graph) ks
      → held_at key (altered (map PlaceBack ks) s).chains.arcs.seats ≡ Half a others [] valid
  kept_placed low [] s h rise all are = h
  kept_placed low (f ∷ ks) s h rise all are =
      let old = fact_at s.graph sorts.Arc f.id in
      let id = told_id s.graph f are.0 in
      let b = and_right (nat_le low f.id) (rises_from fact_id (f.id + 1) ks) rise in
      let lacks = rises-lacks fact_id (f.id + 1) f.id ks b (omega arith) in
      let out : has_id number_id old.id a ≡ false = ap (λ i. has_id number_id i a) id ∙ all.0 in
      let e : held_shifted old f (Half a others (f ∷ ks) valid) ≡ Half a others ks valid =
      ap (λ t. Half a others (if t then f ∷ ks else kept_moved old f (f ∷ ks)) valid) out
      ∙ ap (λ l. Half a others l valid) (given_up old f ks id b) in
      let now : State = took (PlaceBack f) s in
      kept_placed (f.id + 1) ks now
      (heard_held key (told (Shift old f)) (held_shifted old f) (λ s. refl) (λ s. refl) refl
      s.chains.arcs.seats ∙ ap (held_shifted old f) h ∙ e) b all.1
      (all_told_after s.graph f ks (lacks_each f.id ks lacks) are.1 now.graph
      (λ x other. told_after s.graph f x other))

-- it keeps nothing any more, and has the added items that it had
abbrev pub GivesUp : Held → Held → Type 0
GivesUp h now = (kept_of now ≡ []) × (added_of now ≡ added_of h)

all_given_up : (key : ℕ) (h : Held) (s : State) (live : List Fact)
    → held_at key s.chains.arcs.seats ≡ h → IsHalf h → HeldFits h live → IsHeldSound h
    → AllOf (IsTold s.graph) (kept_of h)
    → GivesUp h (held_at key (altered (map PlaceBack (kept_of h)) s).chains.arcs.seats)
all_given_up key Nothing s live e half fits sound are = absurd half
all_given_up key (Values t es) s live e half fits sound are = absurd half
all_given_up key (Degree out ends) s live e half fits sound are = absurd half
all_given_up key (Half a others kept valid) s live e half fits sound are =
    let r = kept_placed key a others valid 0 kept s e sound.1
    (all_more (λ f m. lacks-not_has number_id f.id a m.older) kept fits.moved) are in
    (ap kept_of r, ap added_of r)
all_given_up key (Kept role all items) s live e half fits sound are = absurd half
all_given_up key (Ties ties) s live e half fits sound are = absurd half

pub given_up_at : (s t : State) (k : SnapKeys) → IsInStep s → Contains s.chains.snaps k
    → IsTrue (is_valid k s.chains) → AllSeats Steady s.chains.arcs.seats
    → IsSame (altered (places k s.chains) s) t
    → GivesUp (arc_half k s.chains) (arc_half k t.chains)
given_up_at s t k h there v steady e =
    let p = present_of s.graph in
    let snap = all_at (IsSnap p s.chains) k s.chains.snaps h.seats.snaps.each there in
    let after : State = altered (places k s.chains) s in
    subst (GivesUp (arc_half k s.chains))
    (sym (held_same k.arcs.0 after.chains.arcs.seats t.chains.arcs.seats e.chains.arcs.seats))
    (all_given_up k.arcs.0 (arc_half k s.chains) s p.arcs refl snap.arcs.half
    (fits_at p.stamps p.arcs k.arcs.0 s.chains.arcs.seats h.seats.arcs)
    (sound_at k.arcs.0 s.chains.arcs.seats steady) (kept_told s h k there v steady))

-- no seat of the node chain is told of a move
nodes_untold : (fs : List Fact) (s : State)
    → (altered (map PlaceBack fs) s).chains.nodes ≡ s.chains.nodes
nodes_untold [] s = refl
nodes_untold (f ∷ fs) s = nodes_untold fs (took (PlaceBack f) s)

pub node_half_stays : (s t : State) (k : SnapKeys) → IsSame (altered (places k s.chains) s) t
    → node_half k t.chains ≡ node_half k s.chains
node_half_stays s t k e =
    let after : State = altered (places k s.chains) s in
    held_same k.nodes.0 after.chains.nodes.seats t.chains.nodes.seats e.chains.nodes.seats
    ∙ ap (λ (c : ChainSeen). held_at k.nodes.0 c.seats)
    (nodes_untold (kept_of (arc_half k s.chains)) s)

-- and nothing of a copy is taken
none_taken : (copy : Saved) (fs : List Fact)
    → list_any (takes_from copy) (map PlaceBack fs) ≡ false
none_taken copy [] = refl
none_taken copy (f ∷ fs) = none_taken copy fs

pub valid_placed : (s t : State) (k : SnapKeys) → Contains s.chains.snaps k
    → SnapsFollow (places k s.chains) s t → IsTrue (is_valid k s.chains)
    → IsTrue (is_valid k t.chains)
valid_placed s t k there follow v =
    let p = present_of s.graph in
    let one = all_at (Follows (places k s.chains) p s.chains (present_of t.graph) t.chains) k
    s.chains.snaps follow.each there in
    one.flag
    ∙ ap (λ b. is_valid k s.chains && not b)
    (none_taken (saved_by k p s.chains) (kept_of (arc_half k s.chains)))
    ∙ ap (λ b. b && true) v
