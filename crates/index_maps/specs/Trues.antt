-- The true items by rising id.
use Rattle.std.specs.Prelude.{ℕ, ◌+◌, Bool, ◌&&◌, nat_le, if◌then◌else◌, List, [], ◌∷◌, Option}
use Rattle.std.specs.Prelude.{Some, None}
use Rattle.observe_core.specs.Held.{Entry}

-- the first true item from an id on
abbrev pub first_true : ℕ → List (Entry Bool) → Option ℕ
first_true low [] = None
first_true low (e ∷ es) = if nat_le low e.id && e.value then Some e.id else first_true low es

-- the least id that may come next
abbrev pub low_after : Option ℕ → ℕ
low_after None = 0
low_after (Some id) = id + 1
