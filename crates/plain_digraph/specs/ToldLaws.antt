-- What is told of each item after a move or an erasure. Of an addition `Laws` says it.
use Rattle.std.specs.Prelude.{◌≡◌, ℕ, ◌==◌, cond, Some, None}
use Rattle.base_items.specs.declared.items.Fact.{Fact}
use Rattle.base_items.specs.declared.items.ItemSort.TheVariants as sorts
use Rattle.plain_digraph.specs.Facts.{with_source, with_target, turned}
use Rattle.plain_digraph.specs.Digraph.{Digraph}
use Rattle.plain_digraph.specs.Items.{fact_of}
use Rattle.plain_digraph.specs.Steps.{move_from, move_to, turn, place, erase_arc, erase_node}

-- the fact is told of its arc now, and what is told of all other items stays
pub record Tells (old : Digraph) (now : Fact) (new : Digraph) : Type 0 where
  pub arcs : (id : ℕ)
      → fact_of new sorts.Arc id ≡ cond (id == now.id) (Some now) (fact_of old sorts.Arc id)
  pub nodes : (id : ℕ) → fact_of new sorts.Node id ≡ fact_of old sorts.Node id

-- an arc that gets another source is told of by its new fact
abbrev pub MovedSourceTells : Type 0
MovedSourceTells = (g : Digraph) (fact : Fact) (node : ℕ) → fact_of g sorts.Arc fact.id ≡ Some fact
    → Tells g (with_source fact node g.stamps) (move_from g fact.id node)

-- an arc that gets another target is told of by its new fact
abbrev pub MovedTargetTells : Type 0
MovedTargetTells = (g : Digraph) (fact : Fact) (node : ℕ) → fact_of g sorts.Arc fact.id ≡ Some fact
    → Tells g (with_target fact node g.stamps) (move_to g fact.id node)

-- an arc that is turned is told of by its new fact
abbrev pub TurnedTells : Type 0
TurnedTells = (g : Digraph) (fact : Fact) → fact_of g sorts.Arc fact.id ≡ Some fact
    → Tells g (turned fact g.stamps) (turn g fact.id)

-- an arc that is placed back is told of by the fact given
abbrev pub PlacedTells : Type 0
PlacedTells = (g : Digraph) (fact : Fact) → Tells g fact (place g fact)

-- nothing is told of an erased arc, and of all other items what was told before
abbrev pub ErasedArcTells : Type 0
ErasedArcTells = (g : Digraph) (arc id : ℕ)
    → (fact_of (erase_arc g arc) sorts.Arc id ≡ cond (id == arc) None (fact_of g sorts.Arc id))
    × (fact_of (erase_arc g arc) sorts.Node id ≡ fact_of g sorts.Node id)

-- nothing is told of an erased node, and of all other items what was told before
abbrev pub ErasedNodeTells : Type 0
ErasedNodeTells = (g : Digraph) (node id : ℕ)
    → (fact_of (erase_node g node) sorts.Node id ≡ cond (id == node) None (fact_of g sorts.Node id))
    × (fact_of (erase_node g node) sorts.Arc id ≡ fact_of g sorts.Arc id)
