-- An undone step gives the digraph from before it.
use Rattle.std.specs.Prelude.{◌≡◌, ◌⊎◌, ℕ, Some}
use Rattle.base_items.specs.declared.items.Fact.{Fact}
use Rattle.base_items.specs.declared.items.ItemSort.{ItemSort}
use Rattle.base_items.specs.declared.items.ItemSort.TheVariants as sorts
use Rattle.plain_digraph.specs.Digraph.{Digraph}
use Rattle.plain_digraph.specs.Items.{fact_of, used_of, node_fact, arc_fact}
use Rattle.plain_digraph.specs.Steps.{add_node, add_arc, new_node, new_arc, move_from, move_to}
use Rattle.plain_digraph.specs.Steps.{turn, place}
use Rattle.plain_digraph.specs.Undo.{before_move, before_addition}
use Rattle.plain_digraph.specs.Valid.{IsValid}

-- one move of the arc leads from the digraph to the other
abbrev pub MovesTo : Digraph → ℕ → Digraph → Type 0
MovesTo g arc h =
    ((node : ℕ) × (move_from g arc node ≡ h)) ⊎ ((node : ℕ) × (move_to g arc node ≡ h))
    ⊎ (turn g arc ≡ h) ⊎ ((f : Fact) × (f.id ≡ arc) × (place g f ≡ h))

-- the addition of an item leads from the digraph to the other, and answers this fact
abbrev pub AddsTo : Digraph → ItemSort → Fact → Digraph → Type 0
AddsTo g sorts.Node f h = (add_node g ≡ h) × (f ≡ node_fact (new_node g) g.stamps)
AddsTo g sorts.Arc f h = (add_arc g f.from f.to ≡ h)
    × (f ≡ arc_fact (new_arc g) (f.from, f.to) g.stamps g.stamps)

-- a move is undone by the fact from before it
abbrev pub MoveIsUndone : Type 0
MoveIsUndone = (g h : Digraph) (arc : ℕ) (f : Fact) → IsValid g → fact_of g sorts.Arc arc ≡ Some f
    → MovesTo g arc h → before_move h f ≡ g

-- an addition is undone by the id and the number of ids that were used
abbrev pub AdditionIsUndone : Type 0
AdditionIsUndone = (g h : Digraph) (sort : ItemSort) (f : Fact) → IsValid g → AddsTo g sort f h
    → before_addition h sort f.id (used_of g sort) ≡ g
