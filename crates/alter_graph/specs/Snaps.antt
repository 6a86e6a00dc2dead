-- Snapshots: a half in each chain, what both save, and the law of them.
use Rattle.std.specs.Prelude.{◌≡◌, ◌≢◌, ℕ, zero, suc, ◌<◌, Bool, true, false, not, ◌&&◌, ◌==◌}
use Rattle.std.specs.Prelude.{IsTrue}
use Rattle.std.specs.Prelude.{if◌then◌else◌, List, [], ◌∷◌, ◌++◌}
use Rattle.std.specs.List.{list_any}
use Rattle.base_items.specs.declared.items.Fact.{Fact}
use Rattle.observe_core.specs.declared.kinds.Kind.{Kind}
use Rattle.observe_core.specs.declared.kinds.Kind.TheVariants.{Map}
use Rattle.plain_digraph.specs.Lists.{AllOf}
use Rattle.plain_digraph.specs.Facts.{fact_id}
use Rattle.plain_digraph.specs.PlainSteps.{PlainStep, EraseArc, EraseNode, ClearArcs, ClearNodes}
use Rattle.observe_core.specs.Items.{has_id}
use Rattle.observe_core.specs.Held.{Held, Nothing, Values, Degree, Half, Kept, Ties}
use Rattle.observe_core.specs.Saved as saved
use Rattle.observe_core.specs.Seen.{Seen}
use Rattle.notify_chain.specs.Seats.{SeatSeen}
use Rattle.alter_graph.specs.declared.snaps.SnapKeys.{SnapKeys}
use Rattle.alter_graph.specs.Chains.{ChainsSeen}
use Rattle.alter_graph.specs.Present.{Present}

-- what is held by the form of a half by itself, which is 0; what has another form is no half
abbrev pub half_held : ℕ → Held → Held
half_held zero held = held
half_held (suc n) held = Nothing

abbrev pub half_of : Seen → Held
half_of s = half_held s.form s.held

-- what the seat of a key holds by the form of a half
abbrev pub held_at : ℕ → List SeatSeen → Held
held_at key [] = Nothing
held_at key (s ∷ ss) = if s.key == key then half_of s.seen else held_at key ss

-- its kind
abbrev pub kind_at : ℕ → List SeatSeen → Kind
kind_at key [] = Map
kind_at key (s ∷ ss) = if s.key == key then s.seen.kind else kind_at key ss

abbrev pub IsHalf : Held → Type 0
IsHalf Nothing = ⊥
IsHalf (Values t es) = ⊥
IsHalf (Degree out ends) = ⊥
IsHalf (Half added others kept valid) = Unit {0}
IsHalf (Kept role all items) = ⊥
IsHalf (Ties ties) = ⊥

-- the facts that a half keeps
abbrev pub kept_of : Held → List Fact
kept_of Nothing = []
kept_of (Values t es) = []
kept_of (Degree out ends) = []
kept_of (Half added others kept valid) = kept
kept_of (Kept role all items) = []
kept_of (Ties ties) = []

-- the ids that a half has as added
abbrev pub added_of : Held → List ℕ
added_of Nothing = []
added_of (Values t es) = []
added_of (Degree out ends) = []
added_of (Half added others kept valid) = added
added_of (Kept role all items) = []
added_of (Ties ties) = []

abbrev pub node_half : SnapKeys → ChainsSeen → Held
node_half k c = held_at k.nodes.0 c.nodes.seats

abbrev pub arc_half : SnapKeys → ChainsSeen → Held
arc_half k c = held_at k.arcs.0 c.arcs.seats

-- ---- the copy

-- the facts of the items that were there at the making. Ends and stamps are in them, so they
-- determine the lists of nodes and of arcs
pub record Saved : Type 0 where
  pub nodes : List Fact
  pub arcs : List Fact

-- what is there without the added items, and with the kept facts in place of the present ones
abbrev pub saved_by : SnapKeys → Present → ChainsSeen → Saved
saved_by k p c = record {
  nodes = saved.saved_of (node_half k c) p.nodes;
  arcs = saved.saved_of (arc_half k c) p.arcs;
}

abbrev pub is_valid : SnapKeys → ChainsSeen → Bool
is_valid k c = saved.is_valid (node_half k c) && saved.is_valid (arc_half k c)

-- the arcs of the copies of all valid ones
abbrev pub saved_arcs : List SnapKeys → Present → ChainsSeen → List Fact
saved_arcs [] p c = []
saved_arcs (k ∷ ks) p c =
    (if is_valid k c then (saved_by k p c).arcs else []) ++ saved_arcs ks p c

-- ---- stamps

-- where these are facts of two arcs, they share no stamp
abbrev pub Apart : Fact → Fact → Type 0
Apart f g = f.id ≢ g.id → (f.from_at ≢ g.from_at) × (f.to_at ≢ g.to_at)

abbrev pub AllApart : List Fact → List Fact → Type 0
AllApart fs gs = AllOf (λ f. AllOf (Apart f) gs) fs

abbrev pub IsBelow : ℕ → Fact → Type 0
IsBelow stamps f = (f.from_at < stamps) × (f.to_at < stamps)

-- over the present arcs and those of copies, a stamp belongs to one arc, and all are below the
-- counter
pub record OwnStamps (live old : List Fact) (stamps : ℕ) : Type 0 where
  pub present : AllApart live live
  pub across : AllApart live old
  pub copies : AllApart old old
  pub present_below : AllOf (IsBelow stamps) live
  pub copies_below : AllOf (IsBelow stamps) old

-- ---- the law of snapshots

-- the ends of each arc of the copy are nodes of it
abbrev pub HasEnds : Saved → Type 0
HasEnds copy =
    AllOf (λ f. IsTrue (has_id fact_id f.from copy.nodes) × IsTrue (has_id fact_id f.to copy.nodes))
    copy.arcs

pub record IsHalfSeat (key : ℕ) (ss : List SeatSeen) : Type 0 where
  pub kind : kind_at key ss ≡ Map
  pub half : IsHalf (held_at key ss)

-- the snapshot has its two halves, and while it is valid a whole copy; no node ever moves
pub record IsSnap (p : Present) (c : ChainsSeen) (k : SnapKeys) : Type 0 where
  pub nodes : IsHalfSeat k.nodes.0 c.nodes.seats
  pub arcs : IsHalfSeat k.arcs.0 c.arcs.seats
  pub still : kept_of (node_half k c) ≡ []
  pub ends : IsTrue (is_valid k c) → HasEnds (saved_by k p c)

pub record SnapsHold (p : Present) (c : ChainsSeen) : Type 0 where
  pub each : AllOf (IsSnap p c) c.snaps
  pub stamps : OwnStamps p.arcs (saved_arcs c.snaps p c) p.stamps

-- ---- what becomes of a snapshot

abbrev pub has_any : List Fact → Bool
has_any [] = false
has_any (f ∷ fs) = true

-- whether the step takes an item of the copy away
abbrev pub takes_from : Saved → PlainStep → Bool
takes_from copy (EraseArc arc) = has_id fact_id arc copy.arcs
takes_from copy (EraseNode node) = has_id fact_id node copy.nodes
takes_from copy ClearArcs = has_any copy.arcs
takes_from copy ClearNodes = has_any copy.nodes
takes_from copy _ = false

-- a snapshot becomes stale exactly where a step takes an item of its copy away, and while it is
-- valid its copy stays
pub record Follows (steps : List PlainStep) (p : Present) (c : ChainsSeen) (q : Present)
    (d : ChainsSeen) (k : SnapKeys) : Type 0 where
  pub flag : is_valid k d
      ≡ is_valid k c && not (list_any (takes_from (saved_by k p c)) steps)
  pub copy : IsTrue (is_valid k d) → saved_by k q d ≡ saved_by k p c
