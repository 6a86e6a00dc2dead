-- A signed numeral is text, and the decimal text of a value is one.
use Rattle.std.proofs.Common.{◌≡◌, ℕ, zero, suc, ◌<◌, Bool, true, false, cond, List, [], ◌∷◌, drop}
use Rattle.std.proofs.Common.{refl, sym, ap, ◌∙◌, subst, arith, pos, negsuc, neg_ℤ}
use Rattle.std.specs.Prelude.{◌==◌, IsAscii, IsUtf8, ℤ, FitsSigned}
use Rattle.std.specs.Int.{w64}
use Rattle.std.specs.Fmt.{decimal, signed_decimal}
use Rattle.std.specs.Str.Parse.{AllDigits, IsNumeral, digits_value, without_leading_sign}
use Rattle.std.specs.Str.Parse.{signed_digits_value}
use Rattle.std.proofs.lemmas.Str.{IsUtf8-from_ascii}
use Rattle.std.proofs.lemmas.Str.Ascii.{IsAscii-nil}
use Rattle.std.proofs.lemmas.Str.Parse.{digit_at}
use Rattle.std.proofs.lemmas.Fmt.{IsAscii-from_digits, decimal_is_IsNumeral}
use Rattle.std.proofs.lemmas.Bool.{eqb-true}
use Rattle.token_text.specs.Numbers.{IsInt}

more_ascii : (byte : ℕ) (bytes : List ℕ) → byte < 128 → IsAscii bytes → IsAscii (byte ∷ bytes)
more_ascii byte bytes below ascii zero = below
more_ascii byte bytes below ascii (suc i) = ascii i

signed_ascii : (bytes : List ℕ) → AllDigits 10 (without_leading_sign bytes) → IsAscii bytes
signed_ascii [] digits = IsAscii-nil
signed_ascii (byte ∷ bytes) digits = minus (byte == 45) refl digits
  where
    plus : (test : Bool) → (byte == 43) ≡ test → AllDigits 10 (drop (cond test 1 0) (byte ∷ bytes))
        → IsAscii (byte ∷ bytes)
    plus true tested rest =
        let is = eqb-true byte 43 tested in
        more_ascii byte bytes (omega arith) (IsAscii-from_digits bytes rest)
    plus false tested rest = IsAscii-from_digits (byte ∷ bytes) rest

    minus : (test : Bool) → (byte == 45) ≡ test
        → AllDigits 10 (cond test bytes (drop (cond (byte == 43) 1 0) (byte ∷ bytes)))
        → IsAscii (byte ∷ bytes)
    minus true tested rest =
        let is = eqb-true byte 45 tested in
        more_ascii byte bytes (omega arith) (IsAscii-from_digits bytes rest)
    minus false tested rest = plus (byte == 43) refl rest

-- an int is text
pub int_text : (bytes : List ℕ) (value : ℤ) → IsInt bytes value → IsUtf8 bytes
int_text bytes value int = IsUtf8-from_ascii bytes (signed_ascii bytes int.numeral.1)

-- digits have no sign in front
no_sign : (digits : List ℕ) → IsNumeral 10 digits
    → (without_leading_sign digits ≡ digits)
    × (signed_digits_value 10 digits ≡ pos (digits_value 10 digits))
no_sign [] numeral = absurd (omega (arith, numeral.0))
no_sign (digit ∷ digits) numeral =
    let first = digit_at (digit ∷ digits) 0 numeral.1 numeral.0 in
    grind (arith, first)

-- the decimal text of a value is read as this value
pub decimal_reads : (value : ℤ) → FitsSigned w64 value → IsInt (signed_decimal value) value
decimal_reads (pos n) fits =
    let numeral = decimal_is_IsNumeral n (omega (arith, fits.sfits)) in
    let plain = no_sign (decimal n) numeral.0 in
    record {
      numeral = subst (IsNumeral 10) (sym plain.0) numeral.0;
      value_is = ap pos (sym numeral.1) ∙ sym plain.1;
      fits = fits;
    }
decimal_reads (negsuc n) fits =
    let numeral = decimal_is_IsNumeral (suc n) (omega (arith, fits.sfits)) in
    record {
      numeral = numeral.0;
      value_is = ap (λ m. neg_ℤ (pos m)) (sym numeral.1);
      fits = fits;
    }
