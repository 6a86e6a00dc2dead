-- What is live after a plain step.
use Rattle.std.proofs.Common.{ℕ, [], ◌∷◌, is_some, inl, inr, refl, sym, ap, ◌∙◌}
use Rattle.std.specs.Prelude.{◌==◌, IsSome}
use Rattle.std.specs.List.{list_all}
use Rattle.std.specs.FinMap as fin
use Rattle.std.proofs.lemmas.Bool.{eq-eqb, cases_eq, or_left, or_right, and_parts, true≢false}
use Rattle.base_items.specs.declared.items.ItemSort.TheVariants as sorts
use Rattle.plain_digraph.specs.Lists.{has}
use Rattle.plain_digraph.specs.Digraph.{Ends}
use Rattle.plain_digraph.specs.Items.{ids, source_of, target_of}
use Rattle.plain_digraph.specs.Steps.{new_node, new_arc}
use Rattle.plain_digraph.specs.PlainSteps.{is_refusable, after_step, AddNode, AddArc, MoveFrom}
use Rattle.plain_digraph.specs.PlainSteps.{MoveTo, Turn, PlaceBack, EraseArc, EraseNode, ClearArcs}
use Rattle.plain_digraph.specs.PlainSteps.{ClearNodes}
use Rattle.plain_digraph.specs.LiveLaws.{LiveItemsStay, LiveItemsStayThroughout, AddedItemsAreLive}
use Rattle.plain_digraph.specs.LiveLaws.{ErasedArcLeaves, ErasedNodeLeaves}
use Rattle.plain_digraph.proofs.Keys.{get_new, get_other}
use Rattle.plain_digraph.proofs.Places.{unplaced-lacks}
use Rattle.plain_digraph.proofs.Changes.{get_gone, get_left, has-unplaced}

-- an arc that has ends has ends once any arc gets ends
has_ends : (ends : Ends) (arc : ℕ) (e : ℕ × ℕ) (id : ℕ) → IsSome (fin.get ends id)
    → IsSome (fin.get (fin.insert ends arc e) id)
has_ends ends arc e id live = elim (cases_eq id arc) [
  | inl same ↦ ap (λ a. is_some (fin.get (fin.insert ends arc e) a)) same
      ∙ ap is_some (get_new ends arc e)
  | inr other ↦ ap is_some (get_other ends arc e id other) ∙ live
]

pub live_items_stay : LiveItemsStay
live_items_stay g AddNode sorts.Node id can live =
    or_right (new_node g == id) (has (ids g.nodes) id) live
live_items_stay g AddNode sorts.Arc id can live = live
live_items_stay g (AddArc from to) sorts.Node id can live = live
live_items_stay g (AddArc from to) sorts.Arc id can live =
    has_ends g.ends (new_arc g) (from, to) id live
live_items_stay g (MoveFrom arc node) sorts.Node id can live = live
live_items_stay g (MoveFrom arc node) sorts.Arc id can live =
    has_ends g.ends arc (node, target_of g arc) id live
live_items_stay g (MoveTo arc node) sorts.Node id can live = live
live_items_stay g (MoveTo arc node) sorts.Arc id can live =
    has_ends g.ends arc (source_of g arc, node) id live
live_items_stay g (Turn arc) sorts.Node id can live = live
live_items_stay g (Turn arc) sorts.Arc id can live =
    has_ends g.ends arc (target_of g arc, source_of g arc) id live
live_items_stay g (PlaceBack fact) sorts.Node id can live = live
live_items_stay g (PlaceBack fact) sorts.Arc id can live =
    has_ends g.ends fact.id (fact.from, fact.to) id live
live_items_stay g (EraseArc arc) sort id can live = absurd (true≢false (sym can))
live_items_stay g (EraseNode node) sort id can live = absurd (true≢false (sym can))
live_items_stay g ClearArcs sort id can live = absurd (true≢false (sym can))
live_items_stay g ClearNodes sort id can live = absurd (true≢false (sym can))

pub live_items_stay_throughout : LiveItemsStayThroughout
live_items_stay_throughout g [] sort id can live = live
live_items_stay_throughout g (step ∷ steps) sort id can live =
    let parts = and_parts (is_refusable step) (list_all is_refusable steps) can in
    live_items_stay_throughout (after_step g step) steps sort id parts.1
    (live_items_stay g step sort id parts.0 live)

pub added_items_are_live : AddedItemsAreLive
added_items_are_live g from to = (
  or_left (new_node g == new_node g) (has (ids g.nodes) (new_node g))
      (eq-eqb (new_node g) (new_node g) refl),
  ap is_some (get_new g.ends (new_arc g) (from, to)),
)

pub erased_arc_leaves : ErasedArcLeaves
erased_arc_leaves g arc id = (
  λ live. true≢false (sym live ∙ ap is_some (get_gone g.ends arc)),
  λ other live. ap is_some (get_left g.ends arc id other) ∙ live,
  λ live. live,
)

pub erased_node_leaves : ErasedNodeLeaves
erased_node_leaves g node id = (
  λ live. true≢false (sym live ∙ unplaced-lacks g.nodes node),
  λ other live. has-unplaced g.nodes node id other live,
  λ live. live,
)
