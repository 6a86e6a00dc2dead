-- The first places where values break a rule.
use Rattle.std.specs.Prelude.{◌≡◌, ℕ, ◌<◌, ◌^◌, Bool, true, false, ℤ, pos}
use Rattle.std.specs.Prelude.{int_lt, unsigned_abs, nat_lt, List, Option, None, Some}
use Rattle.plain_certificates.specs.Tables.{at}

-- no place before this one breaks the rule
abbrev pub NoneBefore : ℕ → (ℕ → Bool) → Type 0
NoneBefore count breaks = (k : ℕ) → k < count → breaks k ≡ false

-- the first of so many places that breaks the rule, or none where none does
abbrev pub IsFirst : ℕ → (ℕ → Bool) → Option ℕ → Type 0
IsFirst count breaks None = NoneBefore count breaks
IsFirst count breaks (Some k) = (k < count) × (breaks k ≡ true) × NoneBefore k breaks

-- whether the magnitude of the value is above the limit
abbrev pub is_outside : List ℤ → ℕ → Bool
is_outside values k = nat_lt (2 ^ 36) (unsigned_abs (at (pos 0) values k))

-- whether the value is below this one
abbrev pub is_under : List ℤ → ℤ → ℕ → Bool
is_under values least k = int_lt (at (pos 0) values k) least

-- whether the first value is above the second
abbrev pub is_crossed : List ℤ → List ℤ → ℕ → Bool
is_crossed lower upper k = int_lt (at (pos 0) upper k) (at (pos 0) lower k)
