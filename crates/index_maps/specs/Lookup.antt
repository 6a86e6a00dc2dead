-- The value of an id among entries.
use Rattle.std.specs.Prelude.{ℕ, ◌==◌, if◌then◌else◌, List, [], ◌∷◌}
use Rattle.observe_core.specs.Held.{Entry}

-- the value of the first entry with the id, or this value where there is none
abbrev pub value_of : {V : Type 0} → V → List (Entry V) → ℕ → V
value_of absent [] i = absent
value_of absent (e ∷ es) i = if e.id == i then e.value else value_of absent es i
