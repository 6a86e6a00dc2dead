-- The lists of a program as functions of the place, and a function with another value at one place.
use Rattle.std.specs.Prelude.{ℕ, ◌==◌, cond, List, slice_index_or}
use Rattle.std.specs.List.{position_or_len}

-- the value at a place, and a default past the end
abbrev pub at : {A : Type 0} → A → List A → ℕ → A
at default values k = slice_index_or values k default

-- the first place of a number in a list, and the length where it isn't there
abbrev pub place_of : List ℕ → ℕ → ℕ
place_of numbers number = position_or_len (λ other. other == number) numbers

-- the function with another value at one place
abbrev pub set_at : {A : Type 0} → (ℕ → A) → ℕ → A → ℕ → A
set_at f place value k = cond (k == place) value (f k)
