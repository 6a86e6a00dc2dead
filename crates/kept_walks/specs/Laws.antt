-- What is held of a digraph is the digraph, and what is kept of it is what its layers show.
use Rattle.std.specs.Prelude.{◌≡◌, ◌≢◌, ℕ, Bool, List, [], ◌∷◌}
use Rattle.base_items.specs.declared.items.Fact.{Fact}
use Rattle.base_items.specs.declared.items.ItemSort.TheVariants.{Node, Arc}
use Rattle.plain_digraph.specs.Digraph.{Digraph}
use Rattle.plain_digraph.specs.Items.{facts}
use Rattle.plain_digraph.specs.Valid.{IsValid}
use Rattle.plain_digraph.specs.Lists.{AllOf}
use Rattle.observe_core.specs.declared.kinds.KeptShape.{KeptShape}
use Rattle.observe_core.specs.declared.changes.Change.{Change}
use Rattle.observe_core.specs.declared.changes.Change.TheVariants.{Add, Shift, Build}
use Rattle.observe_core.specs.declared.losses.Loss.{Loss}
use Rattle.observe_core.specs.Held.{Marked}
use Rattle.observe_core.specs.Seen.{Seen, facts_of_marked}
use Rattle.observe_core.specs.Changes.{told}
use Rattle.observe_core.specs.Losses.{lost}
use Rattle.plain_views.specs.Shown.{base_shown}
use Rattle.kept_views.specs.declared.items.Marks.{Marks}
use Rattle.kept_views.specs.ItemViews.{marked_set}
use Rattle.kept_walks.specs.Stored.{stored, kept, HasEnds}
use Rattle.kept_walks.specs.Present.{Present, layered, AreMarked, ArePlaced, items_seen, new_marks}

-- observers that hold the facts of a valid digraph show it as it stands, with its orders
abbrev pub StoredIsBase : Type 0
StoredIsBase = (g : Digraph) → IsValid g → stored (facts g Node) (facts g Arc) ≡ base_shown g

-- the items are those of the digraph, by their facts
pub record AreOf (g : Digraph) (all_nodes all_arcs : List Marked) : Type 0 where
  pub nodes : facts_of_marked all_nodes ≡ facts g Node
  pub arcs : facts_of_marked all_arcs ≡ facts g Arc

-- where they hold the facts of a valid digraph, both ends of each arc are held
abbrev pub EndsAreHeld : Type 0
EndsAreHeld = (g : Digraph) (nodes arcs : List Marked) → IsValid g → AreOf g nodes arcs
    → HasEnds nodes arcs

-- and where each item was placed by its present values besides, the kept view is what its layers
-- show of the digraph as it stands
abbrev pub KeptFollows : Type 0
KeptFollows = (g : Digraph) (nodes arcs : List Marked) (shape : KeptShape) (v : Present)
    → IsValid g → AreOf g nodes arcs → ArePlaced shape v nodes arcs
    → kept shape nodes arcs ≡ layered shape v (base_shown g)

-- ---- marks stay

-- the items that are new at a change
abbrev pub new_in : Change → List Fact
new_in (Add f) = f ∷ []
new_in (Shift old now) = []
new_in (Build all) = all.now

-- at each notice the items stay marked by what is said of their ids, a new one where a new item's
-- mark is said of its id too
abbrev pub MarksStay : Type 0
MarksStay = (mark : Marks → Bool) (says : ℕ → Bool) (s : Seen) → AreMarked mark says (items_seen s)
    → ((c : Change) → AllOf (λ (f : Fact). mark (new_marks s) ≡ says f.id) (new_in c)
    → AreMarked mark says (items_seen (told c s)))
    × ((l : Loss) → AreMarked mark says (items_seen (lost l s)))

-- where something else is said of one id, placing its item by that marks all by what is said now;
-- the facts are the same
pub record MarksNow (mark : Marks → Bool) (says : ℕ → Bool) (old new : List Marked)
    : Type 0 where
  pub marked : AreMarked mark says new
  pub facts : facts_of_marked new ≡ facts_of_marked old

abbrev pub PlacingMarks : Type 0
PlacingMarks = (mark : Marks → Bool) (says now : ℕ → Bool) (id : ℕ) (m : Marks)
    (items : List Marked) → ((other : ℕ) → other ≢ id → now other ≡ says other)
    → mark m ≡ now id → AreMarked mark says items
    → MarksNow mark now items (marked_set id m items)
