-- The present values that the layers of a kept view look at, and items that are marked by them.
use Rattle.std.specs.Prelude.{◌≡◌, ℕ, Bool, false, List, [], ℤ, pos, int_lt}
use Rattle.plain_digraph.specs.Lists.{AllOf}
use Rattle.observe_core.specs.declared.kinds.KeptShape.{KeptShape}
use Rattle.observe_core.specs.declared.kinds.KeptShape.TheVariants.{Sub, Residual, ResidualOverSub}
use Rattle.observe_core.specs.Held.{Held, Nothing, Values, Degree, Half, Kept, Ties, Marked}
use Rattle.observe_core.specs.Seen.{Seen}
use Rattle.plain_views.specs.Shown.{Shown}
use Rattle.plain_views.specs.Adaptors.{sub, residual}
use Rattle.kept_views.specs.declared.items.Marks.{Marks}
use Rattle.kept_views.specs.ItemViews.{marks, no_marks}

-- which items pass the filters, and the capacity and the flow of each arc, by the ids
pub record Present : Type 0 where
  pub keeps_node : ℕ → Bool
  pub keeps_arc : ℕ → Bool
  pub cap : ℕ → ℤ
  pub flow : ℕ → ℤ

-- what layers of the shape show of what is below them
abbrev pub layered : KeptShape → Present → Shown → Shown
layered Sub v p = sub v.keeps_node v.keeps_arc p
layered Residual v p = residual v.cap v.flow p
layered ResidualOverSub v p = residual v.cap v.flow (sub v.keeps_node v.keeps_arc p)

-- whether the flow can grow, and whether it can fall
abbrev pub can_grow : (ℕ → ℤ) → (ℕ → ℤ) → ℕ → Bool
can_grow cap flow arc = int_lt (flow arc) (cap arc)

abbrev pub can_fall : (ℕ → ℤ) → ℕ → Bool
can_fall flow arc = int_lt (pos 0) (flow arc)

-- ---- marks

-- how an item is marked
abbrev pub marks_at : Marked → Marks
marks_at x = marks x.shown x.forward x.backward

-- a mark of each item is what is said of its id
abbrev pub AreMarked : (Marks → Bool) → (ℕ → Bool) → List Marked → Type 0
AreMarked mark says items = AllOf (λ (x : Marked). mark (marks_at x) ≡ says x.fact.id) items

-- each node and each arc is shown where it passes its filter
pub record AreFiltered (v : Present) (all_nodes all_arcs : List Marked) : Type 0 where
  pub nodes : AreMarked (λ m. m.shown) v.keeps_node all_nodes
  pub arcs : AreMarked (λ m. m.shown) v.keeps_arc all_arcs

-- each arc is forward where its flow can grow, and backward where it can fall
pub record AreRoomy (v : Present) (arcs : List Marked) : Type 0 where
  pub forward : AreMarked (λ m. m.forward) (can_grow v.cap v.flow) arcs
  pub backward : AreMarked (λ m. m.backward) (can_fall v.flow) arcs

-- each item was placed by the present values that layers of the shape look at
abbrev pub ArePlaced : KeptShape → Present → List Marked → List Marked → Type 0
ArePlaced Sub v nodes arcs = AreFiltered v nodes arcs
ArePlaced Residual v nodes arcs = AreRoomy v arcs
ArePlaced ResidualOverSub v nodes arcs = AreFiltered v nodes arcs × AreRoomy v arcs

-- ---- an observer's record

-- the items that an observer of a kept view holds
abbrev pub items_in : Held → List Marked
items_in Nothing = []
items_in (Values t es) = []
items_in (Degree out ends) = []
items_in (Half added others kept valid) = []
items_in (Kept role all items) = items
items_in (Ties ties) = []

abbrev pub items_seen : Seen → List Marked
items_seen s = items_in s.held

-- the marks of a new item
abbrev pub new_marks_in : Held → Marks
new_marks_in Nothing = no_marks
new_marks_in (Values t es) = no_marks
new_marks_in (Degree out ends) = no_marks
new_marks_in (Half added others kept valid) = no_marks
new_marks_in (Kept role all items) = marks all false false
new_marks_in (Ties ties) = no_marks

abbrev pub new_marks : Seen → Marks
new_marks s = new_marks_in s.held
