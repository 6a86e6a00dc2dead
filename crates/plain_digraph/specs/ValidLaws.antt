-- Each plain step keeps a digraph valid.
use Rattle.std.specs.Prelude.{◌≡◌, ℕ, ◌<◌, false, List, [], map, length}
use Rattle.base_items.specs.declared.limits.TheConstants.{MAX_NODES, MAX_ARCS, MAX_STAMP}
use Rattle.base_items.specs.declared.items.Fact.{Fact}
use Rattle.base_items.specs.declared.items.ItemSort.TheVariants as sorts
use Rattle.plain_digraph.specs.Lists.{has}
use Rattle.plain_digraph.specs.Digraph.{Digraph, Place, empty}
use Rattle.plain_digraph.specs.Items.{IsLive, out_arcs, in_arcs}
use Rattle.plain_digraph.specs.Steps.{add_node, add_arc, unplaced, erase_arc, erase_node}
use Rattle.plain_digraph.specs.Steps.{clear_arcs, clear_nodes, move_from, move_to, turn, place}
use Rattle.plain_digraph.specs.Valid.{IsValid}

-- the empty digraph is valid
abbrev pub EmptyIsValid : Type 0
EmptyIsValid = IsValid empty

-- there is room for one more node
abbrev pub HasRoomForNode : Digraph → Type 0
HasRoomForNode g = (length g.nodes < MAX_NODES) × (g.stamps < MAX_STAMP)

-- there is room for one more arc
abbrev pub HasRoomForArc : Digraph → Type 0
HasRoomForArc g = (length g.by_source < MAX_ARCS) × (g.stamps < MAX_STAMP)

-- a node may be added where there is room for it
abbrev pub AddedNodeIsValid : Type 0
AddedNodeIsValid = (g : Digraph) → IsValid g → HasRoomForNode g → IsValid (add_node g)

-- an arc may be added between live nodes where there is room for it
abbrev pub AddedArcIsValid : Type 0
AddedArcIsValid = (g : Digraph) (from to : ℕ) → IsValid g → HasRoomForArc g
    → IsLive g sorts.Node from → IsLive g sorts.Node to → IsValid (add_arc g from to)

-- what a move of an arc needs
abbrev pub HasStampLeft : Digraph → Type 0
HasStampLeft g = g.stamps < MAX_STAMP

-- the arc has no other arc's place in the list
abbrev pub IsOpen : List Place → ℕ → ℕ → Type 0
IsOpen places arc at = has (map (λ p. p.1) (unplaced places arc)) at ≡ false

-- the arc and its ends are live, and the stamps are old ones that no other arc has
pub record CanPlace (g : Digraph) (f : Fact) : Type 0 where
  pub arc : IsLive g sorts.Arc f.id
  pub source : IsLive g sorts.Node f.from
  pub target : IsLive g sorts.Node f.to
  pub old_source : f.from_at < g.stamps
  pub old_target : f.to_at < g.stamps
  pub open_source : IsOpen g.by_source f.id f.from_at
  pub open_target : IsOpen g.by_target f.id f.to_at
  pub left : HasStampLeft g

-- the node is an end of no arc
abbrev pub HasNoArc : Digraph → ℕ → Type 0
HasNoArc g node = (out_arcs g node ≡ []) × (in_arcs g node ≡ [])

-- a live arc may be erased
abbrev pub ErasedArcIsValid : Type 0
ErasedArcIsValid = (g : Digraph) (arc : ℕ) → IsValid g → IsLive g sorts.Arc arc
    → IsValid (erase_arc g arc)

-- a live node without arcs may be erased
abbrev pub ErasedNodeIsValid : Type 0
ErasedNodeIsValid = (g : Digraph) (node : ℕ) → IsValid g → IsLive g sorts.Node node
    → HasNoArc g node → IsValid (erase_node g node)

-- the arcs may be cleared, and then the nodes
abbrev pub ClearedIsValid : Type 0
ClearedIsValid = (g : Digraph) → IsValid g
    → IsValid (clear_arcs g) × IsValid (clear_nodes (clear_arcs g))

-- a live arc may get a live source where a stamp is left
abbrev pub MovedSourceIsValid : Type 0
MovedSourceIsValid = (g : Digraph) (arc node : ℕ) → IsValid g → IsLive g sorts.Arc arc
    → IsLive g sorts.Node node → HasStampLeft g → IsValid (move_from g arc node)

-- a live arc may get a live target where a stamp is left
abbrev pub MovedTargetIsValid : Type 0
MovedTargetIsValid = (g : Digraph) (arc node : ℕ) → IsValid g → IsLive g sorts.Arc arc
    → IsLive g sorts.Node node → HasStampLeft g → IsValid (move_to g arc node)

-- a live arc may be turned where a stamp is left
abbrev pub TurnedIsValid : Type 0
TurnedIsValid = (g : Digraph) (arc : ℕ) → IsValid g → IsLive g sorts.Arc arc → HasStampLeft g
    → IsValid (turn g arc)

-- an arc may be placed back where it can be
abbrev pub PlacedIsValid : Type 0
PlacedIsValid = (g : Digraph) (f : Fact) → IsValid g → CanPlace g f → IsValid (place g f)
