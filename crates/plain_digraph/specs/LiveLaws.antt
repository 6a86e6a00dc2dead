-- What is live after a plain step.
use Rattle.std.specs.Prelude.{◌≡◌, ◌≢◌, ℕ, true, List}
use Rattle.std.specs.List.{list_all}
use Rattle.base_items.specs.declared.items.ItemSort.{ItemSort}
use Rattle.base_items.specs.declared.items.ItemSort.TheVariants as sorts
use Rattle.plain_digraph.specs.Digraph.{Digraph}
use Rattle.plain_digraph.specs.Items.{IsLive, source_of, target_of}
use Rattle.plain_digraph.specs.Steps.{add_node, add_arc, new_node, new_arc, erase_arc, erase_node}
use Rattle.plain_digraph.specs.PlainSteps.{PlainStep, is_refusable, after_step, after_steps}
use Rattle.plain_digraph.specs.Valid.{IsValid}

-- both ends of a live arc are live
abbrev pub EndsAreLive : Type 0
EndsAreLive = (g : Digraph) (arc : ℕ) → IsValid g → IsLive g sorts.Arc arc
    → IsLive g sorts.Node (source_of g arc) × IsLive g sorts.Node (target_of g arc)

-- a refusable step leaves what is live
abbrev pub LiveItemsStay : Type 0
LiveItemsStay = (g : Digraph) (step : PlainStep) (sort : ItemSort) (id : ℕ)
    → is_refusable step ≡ true
    → IsLive g sort id → IsLive (after_step g step) sort id

-- so do some of them in turn
abbrev pub LiveItemsStayThroughout : Type 0
LiveItemsStayThroughout = (g : Digraph) (steps : List PlainStep) (sort : ItemSort) (id : ℕ)
    → list_all is_refusable steps ≡ true
    → IsLive g sort id → IsLive (after_steps g steps) sort id

-- an added item is live
abbrev pub AddedItemsAreLive : Type 0
AddedItemsAreLive = (g : Digraph) (from to : ℕ)
    → IsLive (add_node g) sorts.Node (new_node g) × IsLive (add_arc g from to) sorts.Arc (new_arc g)

-- an erased arc isn't live, and all other items stay
abbrev pub ErasedArcLeaves : Type 0
ErasedArcLeaves = (g : Digraph) (arc id : ℕ)
    → (IsLive (erase_arc g arc) sorts.Arc arc → ⊥)
    × (id ≢ arc → IsLive g sorts.Arc id → IsLive (erase_arc g arc) sorts.Arc id)
    × (IsLive g sorts.Node id → IsLive (erase_arc g arc) sorts.Node id)

-- an erased node isn't live, and all other items stay
abbrev pub ErasedNodeLeaves : Type 0
ErasedNodeLeaves = (g : Digraph) (node id : ℕ)
    → (IsLive (erase_node g node) sorts.Node node → ⊥)
    × (id ≢ node → IsLive g sorts.Node id → IsLive (erase_node g node) sorts.Node id)
    × (IsLive g sorts.Arc id → IsLive (erase_node g node) sorts.Arc id)
