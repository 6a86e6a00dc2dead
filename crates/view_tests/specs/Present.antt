-- The present values of the tests of kept views.
use Rattle.std.specs.Prelude.{ℕ, Bool, true, false, if◌then◌else◌, List, get_or, ℤ, pos}

-- whether an item passes: each where there is no filter
abbrev pub passes : Bool → List Bool → ℕ → Bool
passes all flags id = if all then true else get_or flags id false

abbrev pub int_of : List ℤ → ℕ → ℤ
int_of ints id = get_or ints id (pos 0)
