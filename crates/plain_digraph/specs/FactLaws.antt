-- What each plain step does to the facts by rising id.
use Rattle.std.specs.Prelude.{◌≡◌, ℕ, [], Some}
use Rattle.base_items.specs.declared.items.Fact.{Fact}
use Rattle.base_items.specs.declared.items.ItemSort.TheVariants as sorts
use Rattle.plain_digraph.specs.Rising.{with_item, swapped, without_item}
use Rattle.plain_digraph.specs.Facts.{fact_id, with_source, with_target, turned}
use Rattle.plain_digraph.specs.Digraph.{Digraph}
use Rattle.plain_digraph.specs.Items.{IsLive, fact_of, facts, node_fact, arc_fact}
use Rattle.plain_digraph.specs.Steps.{add_node, add_arc, new_node, new_arc, move_from, move_to}
use Rattle.plain_digraph.specs.Steps.{turn, place, erase_arc, erase_node, clear_arcs, clear_nodes}
use Rattle.plain_digraph.specs.Valid.{IsValid}

-- the facts of the nodes stay
abbrev pub NodeFactsStay : Digraph → Digraph → Type 0
NodeFactsStay old new = facts new sorts.Node ≡ facts old sorts.Node

-- the facts of the arcs stay
abbrev pub ArcFactsStay : Digraph → Digraph → Type 0
ArcFactsStay old new = facts new sorts.Arc ≡ facts old sorts.Arc

-- ---- an addition puts its fact to its place

-- an added node puts its fact to its place, and the facts of the arcs stay
abbrev pub AddedNodeFacts : Type 0
AddedNodeFacts = (g : Digraph) → IsValid g
    → (facts (add_node g) sorts.Node
    ≡ with_item fact_id (node_fact (new_node g) g.stamps) (facts g sorts.Node))
    × ArcFactsStay g (add_node g)

-- an added arc puts its fact to its place, and the facts of the nodes stay
abbrev pub AddedArcFacts : Type 0
AddedArcFacts = (g : Digraph) (from to : ℕ) → IsValid g
    → (facts (add_arc g from to) sorts.Arc
    ≡ with_item fact_id (arc_fact (new_arc g) (from, to) g.stamps g.stamps) (facts g sorts.Arc))
    × NodeFactsStay g (add_arc g from to)

-- ---- a move exchanges the fact of its arc

-- the arc of the fact has the other fact now
abbrev pub Swaps : Digraph → Fact → Digraph → Type 0
Swaps old now new = (facts new sorts.Arc ≡ swapped fact_id now (facts old sorts.Arc))
    × NodeFactsStay old new

-- an arc that gets another source has the fact with that source, and a new stamp by source
abbrev pub MovedSourceFacts : Type 0
MovedSourceFacts = (g : Digraph) (fact : Fact) (node : ℕ) → fact_of g sorts.Arc fact.id ≡ Some fact
    → Swaps g (with_source fact node g.stamps) (move_from g fact.id node)

-- an arc that gets another target has the fact with that target, and a new stamp by target
abbrev pub MovedTargetFacts : Type 0
MovedTargetFacts = (g : Digraph) (fact : Fact) (node : ℕ) → fact_of g sorts.Arc fact.id ≡ Some fact
    → Swaps g (with_target fact node g.stamps) (move_to g fact.id node)

-- an arc that is turned has the fact with its ends exchanged, and a new stamp in both lists
abbrev pub TurnedFacts : Type 0
TurnedFacts = (g : Digraph) (fact : Fact) → fact_of g sorts.Arc fact.id ≡ Some fact
    → Swaps g (turned fact g.stamps) (turn g fact.id)

-- an arc that is placed back has the fact given
abbrev pub PlacedFacts : Type 0
PlacedFacts = (g : Digraph) (fact : Fact) → IsValid g → IsLive g sorts.Arc fact.id
    → Swaps g fact (place g fact)

-- ---- an erasure takes its fact out

-- an erased arc takes its fact out, and the facts of the nodes stay
abbrev pub ErasedArcFacts : Type 0
ErasedArcFacts = (g : Digraph) (arc : ℕ)
    → (facts (erase_arc g arc) sorts.Arc ≡ without_item fact_id arc (facts g sorts.Arc))
    × NodeFactsStay g (erase_arc g arc)

-- an erased node takes its fact out, and the facts of the arcs stay
abbrev pub ErasedNodeFacts : Type 0
ErasedNodeFacts = (g : Digraph) (node : ℕ)
    → (facts (erase_node g node) sorts.Node ≡ without_item fact_id node (facts g sorts.Node))
    × ArcFactsStay g (erase_node g node)

-- a sort that is cleared has no facts, and those of the other stay
abbrev pub ClearedFacts : Type 0
ClearedFacts = (g : Digraph)
    → (facts (clear_arcs g) sorts.Arc ≡ []) × NodeFactsStay g (clear_arcs g)
    × (facts (clear_nodes g) sorts.Node ≡ []) × ArcFactsStay g (clear_nodes g)
