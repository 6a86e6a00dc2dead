-- Values that may be absent.
use Rattle.std.specs.Prelude.{◌≡◌, ℕ, Bool, false, ℤ, pos, int_lt, List, length, Option, None, Some}
use Rattle.std.specs.Option.{option_map_or}
use Rattle.plain_certificates.specs.Tables.{at}

-- so many values, where there are some
abbrev pub AreAll : ℕ → Option (List ℤ) → Type 0
AreAll count None = Unit {0}
AreAll count (Some values) = length values ≡ count

-- the value at a place, where an absent one is 0
abbrev pub or_zero : Option (List ℤ) → ℕ → ℤ
or_zero values k = option_map_or (λ list. at (pos 0) list k) values (pos 0)

-- whether the upper bound, where there is one, is below the lower one
abbrev pub is_out_of_order : Option (List ℤ) → Option (List ℤ) → ℕ → Bool
is_out_of_order lower upper k =
    option_map_or (λ list. int_lt (at (pos 0) list k) (or_zero lower k)) upper false
