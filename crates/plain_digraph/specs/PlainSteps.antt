-- The plain steps as values, and what each does to the items of a sort.
use Rattle.std.specs.Prelude.{ℕ, Bool, true, false, List, fold}
use Rattle.base_items.specs.declared.items.Fact.{Fact}
use Rattle.base_items.specs.declared.items.ItemSort.{ItemSort}
use Rattle.base_items.specs.declared.items.ItemSort.TheVariants as sorts
use Rattle.plain_digraph.specs.Digraph.{Digraph}
use Rattle.plain_digraph.specs.Items.{count_of}
use Rattle.plain_digraph.specs.Steps.{new_node, new_arc, add_node, add_arc, move_from, move_to}
use Rattle.plain_digraph.specs.Steps.{turn, place, erase_arc, erase_node, clear_arcs, clear_nodes}

-- the plain steps, of which the erasures and the clears are sure
pub data PlainStep : Type 0 where
  AddNode : PlainStep
  AddArc : (from to : ℕ) → PlainStep
  MoveFrom : (arc node : ℕ) → PlainStep
  MoveTo : (arc node : ℕ) → PlainStep
  Turn : (arc : ℕ) → PlainStep
  PlaceBack : Fact → PlainStep  -- An arc back to where it was.
  EraseArc : (arc : ℕ) → PlainStep
  EraseNode : (node : ℕ) → PlainStep
  ClearArcs : PlainStep
  ClearNodes : PlainStep

-- the sort of the items that the step changes
abbrev pub sort_of : PlainStep → ItemSort
sort_of AddNode = sorts.Node
sort_of (EraseNode node) = sorts.Node
sort_of ClearNodes = sorts.Node
sort_of _ = sorts.Arc

-- whether the step may be refused
abbrev pub is_refusable : PlainStep → Bool
is_refusable (EraseArc arc) = false
is_refusable (EraseNode node) = false
is_refusable ClearArcs = false
is_refusable ClearNodes = false
is_refusable _ = true

-- the digraph after the step
abbrev pub after_step : Digraph → PlainStep → Digraph
after_step g AddNode = add_node g
after_step g (AddArc from to) = add_arc g from to
after_step g (MoveFrom arc node) = move_from g arc node
after_step g (MoveTo arc node) = move_to g arc node
after_step g (Turn arc) = turn g arc
after_step g (PlaceBack fact) = place g fact
after_step g (EraseArc arc) = erase_arc g arc
after_step g (EraseNode node) = erase_node g node
after_step g ClearArcs = clear_arcs g
after_step g ClearNodes = clear_nodes g

-- the digraph after the steps in turn
abbrev pub after_steps : Digraph → List PlainStep → Digraph
after_steps g steps = fold after_step g steps

-- what becomes of the items of a sort
pub data Change : Type 0 where
  Untouched : Change
  Added : ℕ → Change
  Moved : Change
  Erased : ℕ → Change
  Cleared : (count : ℕ) → Change  -- This many items are gone.

-- what the step does to the items of the sort
abbrev pub change_of : Digraph → PlainStep → ItemSort → Change
change_of g AddNode sorts.Node = Added (new_node g)
change_of g (AddArc from to) sorts.Arc = Added (new_arc g)
change_of g (MoveFrom arc node) sorts.Arc = Moved
change_of g (MoveTo arc node) sorts.Arc = Moved
change_of g (Turn arc) sorts.Arc = Moved
change_of g (PlaceBack fact) sorts.Arc = Moved
change_of g (EraseArc arc) sorts.Arc = Erased arc
change_of g (EraseNode node) sorts.Node = Erased node
change_of g ClearArcs sorts.Arc = Cleared (count_of g sorts.Arc)
change_of g ClearNodes sorts.Node = Cleared (count_of g sorts.Node)
change_of _ _ _ = Untouched
