-- A column of values beside a column of flags, as slots.
use Rattle.std.specs.Prelude.{ℕ, ◌+◌, Bool, if◌then◌else◌, List, [], ◌∷◌, Option, Some, None}
use Rattle.observe_core.specs.Held.{Entry}

-- the entry of each flag that is up
abbrev pub slots_of : {V : Type 0} → ℕ → List Bool → List V → List (Option (Entry V))
slots_of i [] vs = []
slots_of i (l ∷ ls) [] = []
slots_of i (l ∷ ls) (v ∷ vs) =
    (if l then Some (record { id = i; value = v }) else None) ∷ slots_of (i + 1) ls vs
