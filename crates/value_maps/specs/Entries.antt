-- The entries of a map as a finite function on the live items.
use Rattle.std.specs.Prelude.{ℕ, List, map, Contains}
use Rattle.observe_core.specs.Held.{Entry}
use Rattle.columns.specs.Views.{entry}

-- the item of the id has the value
abbrev pub HasValue : {V : Type 0} → ℕ → V → List (Entry V) → Type 0
HasValue id value entries = Contains entries (entry id value)

-- the values of all live items
abbrev pub values_in : {V : Type 0} → List (Entry V) → List V
values_in entries = map (λ e. e.value) entries
