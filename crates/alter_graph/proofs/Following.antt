-- A snapshot follows each step, and the law of snapshots stays.
use Rattle.std.proofs.Common.{◌≡◌, ℕ, zero, suc, ◌+◌, ◌<◌, Bool, true, false, not, ◌&&◌, ◌==◌}
use Rattle.std.proofs.Common.{if◌then◌else◌}
use Rattle.std.proofs.Common.{IsTrue, List, [], ◌∷◌, ◌++◌, inl, inr, refl, sym, ap, subst, ◌∙◌}
use Rattle.std.proofs.Common.{arith}
use Rattle.std.specs.Prelude.{◌||◌}
use Rattle.std.specs.List.{list_any}
use Rattle.base_items.specs.declared.items.Fact.{Fact}
use Rattle.base_items.specs.declared.items.ItemSort.{ItemSort}
use Rattle.base_items.specs.declared.items.ItemSort.TheVariants as sorts
use Rattle.plain_digraph.specs.Lists.{AllOf}
use Rattle.plain_digraph.specs.Facts.{fact_id, with_source, with_target, turned}
use Rattle.plain_digraph.specs.Digraph.{Digraph}
use Rattle.plain_digraph.specs.Items.{IsLive, facts, arc_fact}
use Rattle.plain_digraph.specs.Steps.{new_arc}
use Rattle.plain_digraph.specs.PlainSteps.{PlainStep, AddNode, AddArc, MoveFrom, MoveTo, Turn}
use Rattle.plain_digraph.specs.PlainSteps.{PlaceBack, EraseArc, EraseNode, ClearArcs, ClearNodes}
use Rattle.plain_digraph.specs.PlainSteps.{sort_of, after_step}
use Rattle.plain_digraph.specs.Valid.{IsValid}
use Rattle.observe_core.specs.declared.changes.Change.TheVariants.{Add, Shift, Build}
use Rattle.observe_core.specs.declared.losses.Loss.TheVariants.{Erase, Clear}
use Rattle.observe_core.specs.Items.{has_id}
use Rattle.observe_core.specs.Held.{Held}
use Rattle.observe_core.specs.Fits.{HeldFits}
use Rattle.observe_core.specs.Saved as whole
use Rattle.observe_core.proofs.ItemLemmas.{and_left, and_right, all_more, all_at}
use Rattle.notify_chain.specs.Seats.{SeatSeen, AllSeats, Steady}
use Rattle.alter_graph.specs.declared.snaps.SnapKeys.{SnapKeys}
use Rattle.alter_graph.specs.Chains.{ChainsSeen, seats_in, in_chain}
use Rattle.alter_graph.specs.Present.{Present, present_of, facts_in, fact_at}
use Rattle.alter_graph.specs.Snaps.{half_held, half_of, held_at, kept_of, node_half, arc_half}
use Rattle.alter_graph.specs.Snaps.{Saved, saved_by}
use Rattle.alter_graph.specs.Snaps.{is_valid}
use Rattle.alter_graph.specs.Snaps.{saved_arcs, Apart, IsBelow, OwnStamps, HasEnds}
use Rattle.alter_graph.specs.Snaps.{IsSnap, SnapsHold, has_any, takes_from, Follows}
use Rattle.alter_graph.specs.State.{State, Stands, InStep, IsInStep, SnapsFollow}
use Rattle.alter_graph.specs.Steps.{Notice, Tells, Loses, seats_noticed, noticed, notice_of, took}
use Rattle.alter_graph.specs.Steps.{CanTake, HasOwnPlace}
use Rattle.alter_graph.proofs.Listing.{live_id, live_contained}
use Rattle.alter_graph.proofs.Telling.{next, facts_noticed, CanHear, can_hear, present_next}
use Rattle.alter_graph.proofs.Apart.{own_added, own_swapped, own_later, own_erased, own_cleared}
use Rattle.alter_graph.proofs.Apart.{own_fewer, apart_new, apart_moved, IsNextAt}
use Rattle.alter_graph.proofs.Saving.{held_noticed, sound_at, held_next, seat_next, IsNoMove}
use Rattle.alter_graph.proofs.Saving.{still_next, saves_next, takes_half, flag_next}

half_fits : (form : ℕ) (h : Held) (live : List Fact) → HeldFits h live
    → HeldFits (half_held form h) live
half_fits zero h live fits = fits
half_fits (suc form) h live fits = tt

pub fits_at : (stamps : ℕ) (live : List Fact) (key : ℕ) (ss : List SeatSeen)
    → AllSeats (Stands stamps live) ss → HeldFits (held_at key ss) live
fits_at stamps live key [] h = tt
fits_at stamps live key (s ∷ ss) h =
    let r = fits_at stamps live key ss h.1 in
    elim (s.key == key) as (λ b. HeldFits (if b then half_of s.seen else held_at key ss) live)
    [ true ↦ half_fits s.seen.form s.seen.held live h.0.fits.held | false ↦ r ]

abbrev pub copy_in : ItemSort → Saved → List Fact
copy_in sorts.Node copy = copy.nodes
copy_in sorts.Arc copy = copy.arcs

-- no node moves
abbrev pub MovesArcs : ItemSort → Notice → Type 0
MovesArcs sorts.Node n = IsNoMove n
MovesArcs sorts.Arc n = Unit {0}

moves_arcs : (step : PlainStep) (g : Digraph) → MovesArcs (sort_of step) (notice_of step g)
moves_arcs AddNode g = tt
moves_arcs (AddArc from to) g = tt
moves_arcs (MoveFrom arc node) g = tt
moves_arcs (MoveTo arc node) g = tt
moves_arcs (Turn arc) g = tt
moves_arcs (PlaceBack fact) g = tt
moves_arcs (EraseArc arc) g = tt
moves_arcs (EraseNode node) g = tt
moves_arcs ClearArcs g = tt
moves_arcs ClearNodes g = tt

first_out : (a b c : Bool) → (a && c) && b ≡ (a && b) && c
first_out true true true = refl
first_out true true false = refl
first_out true false true = refl
first_out true false false = refl
first_out false b c = refl

last_out : (a b c : Bool) → a && (b && c) ≡ (a && b) && c
last_out true b c = refl
last_out false b c = refl

-- ---- one snapshot, at a notice

module _ (n : Notice) (p : Present) (c : ChainsSeen) (k : SnapKeys) (was : IsSnap p c k)
    (at : InStep p c) where
  node_fits : HeldFits (node_half k c) p.nodes
  node_fits = fits_at p.stamps p.nodes k.nodes.0 c.nodes.seats at.nodes

  arc_fits : HeldFits (arc_half k c) p.arcs
  arc_fits = fits_at p.stamps p.arcs k.arcs.0 c.arcs.seats at.arcs

  flag_after : (sort : ItemSort) → CanHear n (facts_in sort p) → AllSeats Steady (seats_in sort c)
      → is_valid k (in_chain sort (noticed n) c)
      ≡ is_valid k c && not (takes_half n (copy_in sort (saved_by k p c)))
  flag_after sorts.Node can steady =
      let sound = sound_at k.nodes.0 c.nodes.seats steady in
      ap (λ b. b && whole.is_valid (arc_half k c))
      (ap whole.is_valid (held_next n p.nodes can k.nodes.0 c.nodes.seats was.nodes.kind)
      ∙ flag_next n (node_half k c) p.nodes can node_fits sound was.nodes.half)
      ∙ first_out (whole.is_valid (node_half k c)) (whole.is_valid (arc_half k c))
      (not (takes_half n (saved_by k p c).nodes))
  flag_after sorts.Arc can steady =
      let sound = sound_at k.arcs.0 c.arcs.seats steady in
      ap (λ b. whole.is_valid (node_half k c) && b)
      (ap whole.is_valid (held_next n p.arcs can k.arcs.0 c.arcs.seats was.arcs.kind)
      ∙ flag_next n (arc_half k c) p.arcs can arc_fits sound was.arcs.half)
      ∙ last_out (whole.is_valid (node_half k c)) (whole.is_valid (arc_half k c))
      (not (takes_half n (saved_by k p c).arcs))

  copy_after : (sort : ItemSort) → CanHear n (facts_in sort p) → AllSeats Steady (seats_in sort c)
      → IsTrue (is_valid k (in_chain sort (noticed n) c))
      → saved_by k (next sort n p) (in_chain sort (noticed n) c) ≡ saved_by k p c
  copy_after sorts.Node can steady v =
      let new = held_at k.nodes.0 (seats_noticed n c.nodes.seats) in
      let is : new ≡ held_noticed n (node_half k c) =
      held_next n p.nodes can k.nodes.0 c.nodes.seats was.nodes.kind in
      let w = and_left (whole.is_valid new) (whole.is_valid (arc_half k c)) v in
      let e = ap (λ h. whole.saved_of h (facts_noticed n p.nodes)) is
      ∙ saves_next n (node_half k c) p.nodes can node_fits
      (sound_at k.nodes.0 c.nodes.seats steady) (subst (λ h. IsTrue (whole.is_valid h)) is w) in
      λ i. record { nodes = e i; arcs = whole.saved_of (arc_half k c) p.arcs }
  copy_after sorts.Arc can steady v =
      let new = held_at k.arcs.0 (seats_noticed n c.arcs.seats) in
      let is : new ≡ held_noticed n (arc_half k c) =
      held_next n p.arcs can k.arcs.0 c.arcs.seats was.arcs.kind in
      let w = and_right (whole.is_valid (node_half k c)) (whole.is_valid new) v in
      let e = ap (λ h. whole.saved_of h (facts_noticed n p.arcs)) is
      ∙ saves_next n (arc_half k c) p.arcs can arc_fits
      (sound_at k.arcs.0 c.arcs.seats steady) (subst (λ h. IsTrue (whole.is_valid h)) is w) in
      λ i. record { nodes = whole.saved_of (node_half k c) p.nodes; arcs = e i }

  snap_after : (sort : ItemSort) → CanHear n (facts_in sort p) → AllSeats Steady (seats_in sort c)
      → MovesArcs sort n → IsSnap (next sort n p) (in_chain sort (noticed n) c) k
  snap_after sorts.Node can steady calm = record {
    nodes = seat_next n p.nodes can k.nodes.0 c.nodes.seats was.nodes;
    arcs = was.arcs;
    still = ap kept_of (held_next n p.nodes can k.nodes.0 c.nodes.seats was.nodes.kind)
        ∙ still_next n (node_half k c) calm was.nodes.half was.still;
    ends = λ v. subst HasEnds (sym (copy_after sorts.Node can steady v)) (was.ends
        (and_left (is_valid k c) (not (takes_half n (saved_by k p c).nodes))
        (sym (flag_after sorts.Node can steady) ∙ v)));
  }
  snap_after sorts.Arc can steady calm = record {
    nodes = was.nodes;
    arcs = seat_next n p.arcs can k.arcs.0 c.arcs.seats was.arcs;
    still = was.still;
    ends = λ v. subst HasEnds (sym (copy_after sorts.Arc can steady v)) (was.ends
        (and_left (is_valid k c) (not (takes_half n (saved_by k p c).arcs))
        (sym (flag_after sorts.Arc can steady) ∙ v)));
  }

-- ---- the copies of valid ones become fewer

-- a snapshot that is valid was valid, and its copy is as before
abbrev pub StaysValid : Present → ChainsSeen → Present → ChainsSeen → SnapKeys → Type 0
StaysValid p c q d k = IsTrue (is_valid k d)
    → IsTrue (is_valid k c) × (saved_by k q d ≡ saved_by k p c)

pub follows_valid : (steps : List PlainStep) (p : Present) (c : ChainsSeen) (q : Present)
    (d : ChainsSeen) (k : SnapKeys) → Follows steps p c q d k → StaysValid p c q d k
follows_valid steps p c q d k f v = (
  and_left (is_valid k c) (not (list_any (takes_from (saved_by k p c)) steps)) (sym f.flag ∙ v),
  f.copy v,
)

module _ (P : Fact → Type 0) where
  pub all_left : (xs ys : List Fact) → AllOf P (xs ++ ys) → AllOf P xs
  all_left [] ys h = tt
  all_left (x ∷ xs) ys h = (h.0, all_left xs ys h.1)

  pub all_right : (xs ys : List Fact) → AllOf P (xs ++ ys) → AllOf P ys
  all_right [] ys h = h
  all_right (x ∷ xs) ys h = all_right xs ys h.1

  pub all_both : (xs ys : List Fact) → AllOf P xs → AllOf P ys → AllOf P (xs ++ ys)
  all_both [] ys a b = b
  all_both (x ∷ xs) ys a b = (a.0, all_both xs ys a.1 b)

  pub fewer_arcs : (ks : List SnapKeys) (p q : Present) (c d : ChainsSeen)
      → AllOf (StaysValid p c q d) ks → AllOf P (saved_arcs ks p c) → AllOf P (saved_arcs ks q d)
  fewer_arcs [] p q c d all a = tt
  fewer_arcs (k ∷ ks) p q c d all a =
      let was : List Fact = if is_valid k c then (saved_by k p c).arcs else [] in
      let here : AllOf P was = all_left was (saved_arcs ks p c) a in
      let r = fewer_arcs ks p q c d all.1 (all_right was (saved_arcs ks p c) a) in
      all_both (if is_valid k d then (saved_by k q d).arcs else []) (saved_arcs ks q d)
      (elim (is_valid k d) as (λ b. is_valid k d ≡ b
      → AllOf P (if b then (saved_by k q d).arcs else [])) [
        | true ↦ λ e.
            let w = all.0 e in
            subst (λ copy. AllOf P copy.arcs) (sym w.1)
            (subst (λ b. AllOf P (if b then (saved_by k p c).arcs else [])) w.0 here)
        | false ↦ λ e. tt
      ] refl) r

-- ---- stamps

pub record IsOwn (fact : Fact) (p : Present) (old : List Fact) : Type 0 where
  pub live : AllOf (Apart fact) p.arcs
  pub copies : AllOf (Apart fact) old
  pub below : IsBelow (p.stamps + 1) fact

abbrev pub HasOwnFact : ItemSort → Notice → Present → List Fact → Type 0
HasOwnFact sorts.Arc (Tells (Add fact)) p old = IsOwn fact p old
HasOwnFact sorts.Arc (Tells (Shift was now)) p old = IsOwn now p old
HasOwnFact _ _ p old = Unit {0}

stamps_after : (sort : ItemSort) (n : Notice) (p : Present) (old : List Fact)
    → HasOwnFact sort n p old → OwnStamps p.arcs old p.stamps
    → OwnStamps (next sort n p).arcs old (next sort n p).stamps
stamps_after sorts.Node (Tells change) p old own h = own_later p.arcs old p.stamps h
stamps_after sorts.Node (Loses loss) p old own h = h
stamps_after sorts.Arc (Tells (Add fact)) p old own h =
    own_added fact p.arcs old p.stamps h own.live own.copies own.below
stamps_after sorts.Arc (Tells (Shift was now)) p old own h =
    own_swapped now p.arcs old p.stamps h own.live own.copies own.below
stamps_after sorts.Arc (Tells (Build all)) p old own h = own_later p.arcs old p.stamps h
stamps_after sorts.Arc (Loses (Erase fact)) p old own h = own_erased fact.id p.arcs old p.stamps h
stamps_after sorts.Arc (Loses Clear) p old own h = own_cleared p.arcs old p.stamps h

module _ (g : Digraph) (arc : ℕ) (valid : IsValid g) (live : IsLive g sorts.Arc arc)
    (old : List Fact) (h : OwnStamps (facts g sorts.Arc) old g.stamps) where
  own_moved : (now : Fact) → now.id ≡ (fact_at g sorts.Arc arc).id
      → IsNextAt (λ f. f.from_at) g.stamps (fact_at g sorts.Arc arc) now
      → IsNextAt (λ f. f.to_at) g.stamps (fact_at g sorts.Arc arc) now
      → IsOwn now (present_of g) old
  own_moved now same a b =
      let was : Fact = fact_at g sorts.Arc arc in
      let there = live_contained g sorts.Arc valid arc live in
      let present = all_at (λ f. AllOf (Apart f) (facts g sorts.Arc)) was (facts g sorts.Arc)
      h.present there in
      let across = all_at (λ f. AllOf (Apart f) old) was (facts g sorts.Arc) h.across there in
      let low = all_at (IsBelow g.stamps) was (facts g sorts.Arc) h.present_below there in
      record {
        live = apart_moved was now g.stamps (facts g sorts.Arc) same a b present h.present_below;
        copies = apart_moved was now g.stamps old same a b across h.copies_below;
        below = (next_below (λ f. f.from_at) a low.0, next_below (λ f. f.to_at) b low.1);
      }
    where
      next_below : (at : Fact → ℕ) → IsNextAt at g.stamps (fact_at g sorts.Arc arc) now
          → at (fact_at g sorts.Arc arc) < g.stamps → at now < g.stamps + 1
      next_below at (inl e) l = omega (arith, e)
      next_below at (inr e) l = omega (arith, e, l)

abbrev copies : State → List Fact
copies s = saved_arcs s.chains.snaps (present_of s.graph) s.chains

own_at : (step : PlainStep) (s : State) → IsInStep s → CanTake step s.graph → HasOwnPlace step s
    → HasOwnFact (sort_of step) (notice_of step s.graph) (present_of s.graph) (copies s)
own_at AddNode s at can own = tt
own_at (AddArc from to) s at can own =
    let g = s.graph in
    let h = at.seats.snaps.stamps in
    let f : Fact = arc_fact (new_arc g) (from, to) g.stamps g.stamps in
    record {
      live = apart_new f g.stamps (facts g sorts.Arc) refl refl h.present_below;
      copies = apart_new f g.stamps (copies s) refl refl h.copies_below;
      below = (omega arith, omega arith);
    }
own_at (MoveFrom arc node) s at can own =
    own_moved s.graph arc at.valid can.0 (copies s) at.seats.snaps.stamps
    (with_source (fact_at s.graph sorts.Arc arc) node s.graph.stamps) refl (inl refl) (inr refl)
own_at (MoveTo arc node) s at can own =
    own_moved s.graph arc at.valid can.0 (copies s) at.seats.snaps.stamps
    (with_target (fact_at s.graph sorts.Arc arc) node s.graph.stamps) refl (inr refl) (inl refl)
own_at (Turn arc) s at can own =
    own_moved s.graph arc at.valid can (copies s) at.seats.snaps.stamps
    (turned (fact_at s.graph sorts.Arc arc) s.graph.stamps) refl (inl refl) (inl refl)
own_at (PlaceBack fact) s at can own =
    let a = can.old_source in
    let b = can.old_target in
    record { live = can.apart; copies = own; below = (omega (arith, a), omega (arith, b)) }
own_at (EraseArc arc) s at can own = tt
own_at (EraseNode node) s at can own = tt
own_at ClearArcs s at can own = tt
own_at ClearNodes s at can own = tt

-- ---- a step

or_none : (b : Bool) → b ≡ b || false
or_none true = refl
or_none false = refl

takes_step : (step : PlainStep) (g : Digraph) (copy : Saved) → IsValid g → CanTake step g
    → takes_half (notice_of step g) (copy_in (sort_of step) copy)
    ≡ list_any (takes_from copy) (step ∷ [])
takes_step AddNode g copy valid can = refl
takes_step (AddArc from to) g copy valid can = refl
takes_step (MoveFrom arc node) g copy valid can = refl
takes_step (MoveTo arc node) g copy valid can = refl
takes_step (Turn arc) g copy valid can = refl
takes_step (PlaceBack fact) g copy valid can = refl
takes_step (EraseArc arc) g copy valid can =
    ap (λ id. has_id fact_id id copy.arcs) (live_id g sorts.Arc valid arc can)
    ∙ or_none (has_id fact_id arc copy.arcs)
takes_step (EraseNode node) g copy valid can =
    ap (λ id. has_id fact_id id copy.nodes) (live_id g sorts.Node valid node can.0)
    ∙ or_none (has_id fact_id node copy.nodes)
takes_step ClearArcs g copy valid can = or_none (has_any copy.arcs)
takes_step ClearNodes g copy valid can = or_none (has_any copy.nodes)

names_stay : (sort : ItemSort) (n : Notice) (c : ChainsSeen)
    → (in_chain sort (noticed n) c).snaps ≡ c.snaps
names_stay sorts.Node n c = refl
names_stay sorts.Arc n c = refl

facts_sort : (sort : ItemSort) (g : Digraph) → facts_in sort (present_of g) ≡ facts g sort
facts_sort sorts.Node g = refl
facts_sort sorts.Arc g = refl

module _ (step : PlainStep) (s : State) (at : IsInStep s) (can : CanTake step s.graph)
    (own : HasOwnPlace step s) (then_valid : IsValid (after_step s.graph step))
    (steady : AllSeats Steady (seats_in (sort_of step) s.chains)) where
  abbrev p : Present
  p = present_of s.graph

  abbrev n : Notice
  n = notice_of step s.graph

  abbrev d : ChainsSeen
  d = (took step s).chains

  pub may_hear : CanHear n (facts_in (sort_of step) p)
  may_hear = subst (CanHear n) (sym (facts_sort (sort_of step) s.graph))
      (can_hear step s.graph at.valid can then_valid)

  moved_on : present_of (took step s).graph ≡ next (sort_of step) n p
  moved_on = present_next step s.graph at.valid can

  follows_next : (k : SnapKeys) → IsSnap p s.chains k
      → Follows (step ∷ []) p s.chains (next (sort_of step) n p) d k
  follows_next k was = record {
    flag = flag_after n p s.chains k was at.seats (sort_of step) may_hear steady
        ∙ ap (λ b. is_valid k s.chains && not b)
        (takes_step step s.graph (saved_by k p s.chains) at.valid can);
    copy = copy_after n p s.chains k was at.seats (sort_of step) may_hear steady;
  }

  pub took_follows : SnapsFollow (step ∷ []) s (took step s)
  took_follows = record {
    names = names_stay (sort_of step) n s.chains;
    each = subst (λ q. AllOf (Follows (step ∷ []) p s.chains q d) s.chains.snaps) (sym moved_on)
        (all_more follows_next s.chains.snaps at.seats.snaps.each);
  }

  pub took_snaps : SnapsHold (next (sort_of step) n p) d
  took_snaps =
      let each = all_more
      (λ k was. snap_after n p s.chains k was at.seats (sort_of step) may_hear steady
      (moves_arcs step s.graph)) s.chains.snaps at.seats.snaps.each in
      let stays = all_more
      (λ k was. follows_valid (step ∷ []) p s.chains (next (sort_of step) n p) d k
      (follows_next k was)) s.chains.snaps at.seats.snaps.each in
      let stamps = stamps_after (sort_of step) n p (copies s) (own_at step s at can own)
      at.seats.snaps.stamps in
      let names = names_stay (sort_of step) n s.chains in
      record {
        each = subst (AllOf (IsSnap (next (sort_of step) n p) d)) (sym names) each;
        stamps = subst (λ ks. OwnStamps (next (sort_of step) n p).arcs
            (saved_arcs ks (next (sort_of step) n p) d) (next (sort_of step) n p).stamps)
            (sym names)
            (own_fewer (next (sort_of step) n p).arcs (copies s)
            (saved_arcs s.chains.snaps (next (sort_of step) n p) d)
            (next (sort_of step) n p).stamps
            (λ P a. fewer_arcs P s.chains.snaps p (next (sort_of step) n p) s.chains d stays a)
            stamps);
      }
