-- Ints and bools.
use Rattle.std.specs.Prelude.{◌≡◌, ℕ, ℤ, List, codes, Bool, true, false, ◌⊎◌, FitsSigned}
use Rattle.std.specs.Int.{w64}
use Rattle.std.specs.Str.Parse.{IsNumeral, without_leading_sign, signed_digits_value}

-- The bytes are one sign or none and then one or more decimal digits, of this value, which fits 64
-- bits.
pub record IsInt (bytes : List ℕ) (value : ℤ) : Type 0 where
  pub numeral : IsNumeral 10 (without_leading_sign bytes)
  pub value_is : value ≡ signed_digits_value 10 bytes
  pub fits : FitsSigned w64 value

-- The bytes are one of the two spellings of the bool.
abbrev pub IsBool : List ℕ → Bool → Type 0
IsBool bytes false = (bytes ≡ codes "0") ⊎ (bytes ≡ codes "false")
IsBool bytes true = (bytes ≡ codes "1") ⊎ (bytes ≡ codes "true")
