-- Facts with the marks of a column.
use Rattle.std.specs.Prelude.{ℕ, Bool, false, ◌==◌, if◌then◌else◌, List, [], ◌∷◌, map, get_or}
use Rattle.base_items.specs.declared.items.Fact.{Fact}
use Rattle.observe_core.specs.Held.{Marked}
use Rattle.fact_table.specs.Table.{facts_of}
use Rattle.kept_views.specs.declared.items.Marks.{Marks}
use Rattle.kept_views.specs.declared.items.KeptItems.{KeptItems}

abbrev pub marks : Bool → Bool → Bool → Marks
marks shown forward backward = record { shown = shown; forward = forward; backward = backward }

abbrev pub no_marks : Marks
no_marks = marks false false false

-- a fact with these marks
abbrev pub with_marks : Marks → Fact → Marked
with_marks m f = record { fact = f; shown = m.shown; forward = m.forward; backward = m.backward }

-- a fact with the marks in the column
abbrev pub marked : List Marks → Fact → Marked
marked ms f = with_marks (get_or ms f.id no_marks) f

-- the items by rising id, each with its marks
abbrev pub items_of : KeptItems → List Marked
items_of k = map (marked k.marks.items) (facts_of k.table)

-- the item of the id with other marks
abbrev pub marked_set : ℕ → Marks → List Marked → List Marked
marked_set id m [] = []
marked_set id m (x ∷ xs) =
    (if x.fact.id == id then with_marks m x.fact else x) ∷ marked_set id m xs

-- the marks of the item of the id
abbrev pub marks_in : ℕ → List Marked → Marks
marks_in id [] = no_marks
marks_in id (x ∷ xs) =
    if x.fact.id == id then marks x.shown x.forward x.backward else marks_in id xs
