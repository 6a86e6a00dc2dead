-- The base as a shown digraph: its words are those of the digraph.
use Rattle.std.specs.Prelude.{◌≡◌, ℕ}
use Rattle.std.specs.Option.{is_some}
use Rattle.std.specs.FinMap as fin
use Rattle.base_items.specs.declared.limits.TheConstants.{MAX_ARCS}
use Rattle.base_items.specs.declared.items.ItemSort.TheVariants as sorts
use Rattle.plain_digraph.specs.Digraph.{Digraph}
use Rattle.plain_digraph.specs.Items.{IsLive, source_of, target_of, out_arcs, in_arcs}
use Rattle.plain_digraph.specs.Valid.{IsValid}
use Rattle.plain_views.specs.Shown as shown
use Rattle.plain_views.specs.Shown.{IsShown, AreBelow, base_shown, has_arc, out_ids, in_ids}

-- the base shows a digraph that is valid
abbrev pub BaseIsShown : Type 0
BaseIsShown = (g : Digraph) → IsValid g → IsShown (base_shown g)

-- no id of the base is above the limit of arcs
abbrev pub BaseIsBelow : Type 0
BaseIsBelow = (g : Digraph) → IsValid g → AreBelow (base_shown g) MAX_ARCS

-- at each node the base shows the arcs that are listed there, in their order
abbrev pub BaseListsArcs : Type 0
BaseListsArcs = (g : Digraph) (node : ℕ) → IsValid g
    → (out_ids (base_shown g) node ≡ out_arcs g node)
    × (in_ids (base_shown g) node ≡ in_arcs g node)

-- it shows exactly the live arcs, with their ends
abbrev pub BaseShowsArcs : Type 0
BaseShowsArcs = (g : Digraph) (arc : ℕ) → IsValid g
    → (has_arc (base_shown g) arc ≡ is_some (fin.get g.ends arc))
    × (IsLive g sorts.Arc arc → (shown.source_of (base_shown g) arc ≡ source_of g arc)
    × (shown.target_of (base_shown g) arc ≡ target_of g arc))
