-- Ties as entries of a column.
use Rattle.std.specs.Prelude.{◌≢◌, ℕ, ◌<◌, List, map}
use Rattle.plain_digraph.specs.Lists.{AllOf}
use Rattle.observe_core.specs.Held.{Entry, Tie}

abbrev pub tie_to : ℕ → ℕ → Tie
tie_to tie id = record { tie = tie; item = id }

-- the tie of an entry: its number is the id, its item the value
abbrev pub tie_of : Entry ℕ → Tie
tie_of e = tie_to e.id e.value

abbrev pub ties_in : List (Entry ℕ) → List Tie
ties_in es = map tie_of es

-- no tie below the number is to the item
abbrev pub HasNoneBelow : ℕ → ℕ → List Tie → Type 0
HasNoneBelow n id ties = AllOf (λ t. t.tie < n → t.item ≢ id) ties
