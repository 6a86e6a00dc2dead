-- Items in slots, each at the index that is its id.
use Rattle.std.specs.Prelude.{ℕ, ◌+◌, Bool, true, ◌&&◌, ◌==◌, List, [], ◌∷◌, Option, Some, None}

module _ {X : Type 0} where
  -- the items of the slots, by rising id
  abbrev pub present : List (Option X) → List X
  present [] = []
  present (None ∷ slots) = present slots
  present (Some x ∷ slots) = x ∷ present slots

  -- each item stands at its id and passes the test
  abbrev pub well_placed : (X → ℕ) → (X → Bool) → ℕ → List (Option X) → Bool
  well_placed id_of ok i [] = true
  well_placed id_of ok i (None ∷ slots) = well_placed id_of ok (i + 1) slots
  well_placed id_of ok i (Some x ∷ slots) = (id_of x == i) && ok x
      && well_placed id_of ok (i + 1) slots
