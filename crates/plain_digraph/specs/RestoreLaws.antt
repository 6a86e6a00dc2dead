-- What a restored snapshot gives.
use Rattle.std.specs.Prelude.{◌≡◌, ◌≢◌, ℕ, ◌≤◌, false, Some}
use Rattle.base_items.specs.declared.items.Fact.{Fact}
use Rattle.base_items.specs.declared.items.ItemSort.TheVariants as sorts
use Rattle.plain_digraph.specs.Digraph.{Digraph}
use Rattle.plain_digraph.specs.Items.{IsLive, fact_of}
use Rattle.plain_digraph.specs.PlainSteps.{PlainStep, AddNode, AddArc, MoveFrom, MoveTo, Turn}
use Rattle.plain_digraph.specs.PlainSteps.{PlaceBack, EraseArc, EraseNode, ClearArcs, ClearNodes}
use Rattle.plain_digraph.specs.PlainSteps.{after_step, after_steps}
use Rattle.plain_digraph.specs.Lists.{AllOf}
use Rattle.plain_digraph.specs.Copies.{copy_of, moved, loses}
use Rattle.plain_digraph.specs.Alterations.{Part, places_back, arcs_out, restoring, all_steps}
use Rattle.plain_digraph.specs.Valid.{IsValid}
use Rattle.plain_digraph.specs.ValidLaws.{HasStampLeft, CanPlace, HasNoArc}

-- all that was copied is live, and the nodes are as they were
pub record Keeps (copied now : Digraph) : Type 0 where
  pub nodes : (id : ℕ) → IsLive copied sorts.Node id
      → fact_of now sorts.Node id ≡ fact_of copied sorts.Node id
  pub arcs : (id : ℕ) → IsLive copied sorts.Arc id → IsLive now sorts.Arc id

-- the digraph after the steps of the part
abbrev pub after_part : Part → Digraph → Digraph
after_part part g = after_steps g (part g)

-- the digraph stays valid while the parts of the restoring are taken
pub record StaysValid (copied g : Digraph) : Type 0 where
  pub placed : IsValid (after_part (places_back (copy_of copied)) g)
  pub arcs_gone : IsValid (after_part (arcs_out (copy_of copied))
      (after_part (places_back (copy_of copied)) g))
  pub restored : IsValid (after_steps g (all_steps g (restoring (copy_of copied))))

-- a restored digraph has the lists of the copy
abbrev pub RestoredIsCopied : Type 0
RestoredIsCopied = (copied g : Digraph) → IsValid copied → IsValid g → Keeps copied g
    → StaysValid copied g
    → copy_of (after_steps g (all_steps g (restoring (copy_of copied)))) ≡ copy_of copied

-- a step that doesn't lose the copy keeps it
abbrev pub KeptIfNotLost : Type 0
KeptIfNotLost = (copied g : Digraph) (step : PlainStep) → IsValid copied → IsValid g
    → Keeps copied g
    → loses (copy_of copied) g step ≡ false → Keeps copied (after_step g step)

-- ---- a copied arc can be placed back

-- no other arc has a stamp of a copied one
pub record StampsApart (copied now : Digraph) : Type 0 where
  pub sources : (arc other : ℕ) (was fact : Fact) → fact_of copied sorts.Arc arc ≡ Some was
      → fact_of now sorts.Arc other ≡ Some fact → other ≢ arc → fact.from_at ≢ was.from_at
  pub targets : (arc other : ℕ) (was fact : Fact) → fact_of copied sorts.Arc arc ≡ Some was
      → fact_of now sorts.Arc other ≡ Some fact → other ≢ arc → fact.to_at ≢ was.to_at
  pub earlier : copied.stamps ≤ now.stamps

-- a copied arc can be placed back, where a stamp is left
abbrev pub CopiedCanBePlaced : Type 0
CopiedCanBePlaced = (copied g : Digraph) (was : Fact) → IsValid copied → IsValid g → Keeps copied g
    → StampsApart copied g → HasStampLeft g → fact_of copied sorts.Arc was.id ≡ Some was
    → CanPlace g was

-- a moved arc is live, and an arc that is placed back gets no stamp of another copied one
abbrev pub LeavesStamps : Digraph → Digraph → PlainStep → Type 0
LeavesStamps copied g (MoveFrom arc node) = IsLive g sorts.Arc arc
LeavesStamps copied g (MoveTo arc node) = IsLive g sorts.Arc arc
LeavesStamps copied g (Turn arc) = IsLive g sorts.Arc arc
LeavesStamps copied g (PlaceBack fact) =
    (arc : ℕ) (was : Fact) → fact_of copied sorts.Arc arc ≡ Some was → fact.id ≢ arc
    → (fact.from_at ≢ was.from_at) × (fact.to_at ≢ was.to_at)
LeavesStamps copied g AddNode = Unit {0}
LeavesStamps copied g (AddArc from to) = Unit {0}
LeavesStamps copied g (EraseArc arc) = Unit {0}
LeavesStamps copied g (EraseNode node) = Unit {0}
LeavesStamps copied g ClearArcs = Unit {0}
LeavesStamps copied g ClearNodes = Unit {0}

-- the stamps of the copied arcs stay apart
abbrev pub StampsStayApart : Type 0
StampsStayApart = (copied g : Digraph) (step : PlainStep) → IsValid copied → IsValid g
    → StampsApart copied g
    → LeavesStamps copied g step → StampsApart copied (after_step g step)

-- ---- at the start, and between copies

-- a digraph keeps what is copied of it
abbrev pub CopyIsKept : Type 0
CopyIsKept = (copied : Digraph) → IsValid copied → Keeps copied copied × StampsApart copied copied

-- arcs of an older and of a newer copy can be placed back: they leave the stamps of the other one
abbrev pub CopiesLeaveStamps : Type 0
CopiesLeaveStamps = (older newer g : Digraph) (fact : Fact) → StampsApart older newer
    → (fact_of newer sorts.Arc fact.id ≡ Some fact → LeavesStamps older g (PlaceBack fact))
    × (fact_of older sorts.Arc fact.id ≡ Some fact → LeavesStamps newer g (PlaceBack fact))

-- ---- the added nodes can be erased

-- once the added arcs are out, all arcs are as they were copied
abbrev pub ArcsAreCopied : Type 0
ArcsAreCopied = (copied g : Digraph) → IsValid copied → IsValid g → Keeps copied g
    → IsValid (after_part (places_back (copy_of copied)) g) → (id : ℕ)
    → fact_of (after_part (arcs_out (copy_of copied)) (after_part (places_back (copy_of copied)) g))
    sorts.Arc id
    ≡ fact_of copied sorts.Arc id

-- then no arc is at a node that wasn't copied
abbrev pub AddedNodesAreBare : Type 0
AddedNodesAreBare = (copied g : Digraph) (node : ℕ) → IsValid copied → IsValid g
    → ((id : ℕ) → fact_of g sorts.Arc id ≡ fact_of copied sorts.Arc id)
    → (IsLive copied sorts.Node node → ⊥) → HasNoArc g node

-- each moved arc was copied as its fact says, and is told of otherwise now
abbrev pub MovedAreCopied : Type 0
MovedAreCopied = (copied g : Digraph)
    → AllOf (λ was. (fact_of copied sorts.Arc was.id ≡ Some was)
    × ((now : Fact) → fact_of g sorts.Arc was.id ≡ Some now → was ≢ now))
    (moved (copy_of copied) g)
