-- How escapes are read, as functions. No public clause cites this module.
use Rattle.std.specs.Prelude.{ℕ, ◌+◌, ◌*◌, ◌==◌, ◌&&◌, Bool, not, nat_le, if◌then◌else◌, List, []}
use Rattle.std.specs.Prelude.{◌∷◌, Some, None, Option}
use Rattle.token_text.specs.Bytes.{is_itself, letter_byte, hex_value, octal_value}
use Rattle.token_text.specs.Grammar.{digit_at}

-- A byte and the rest, or None where nothing can be read.
abbrev pub ByteAndRest : Type 0
ByteAndRest = Option (ℕ × List ℕ)

-- What the step makes of the value that was found, or the answer for none.
abbrev pub or_then : {A B : Type 0} → Option A → B → (A → B) → B
or_then None none step = none
or_then (Some value) none step = step value

-- What two hexadecimal digits stand for.
abbrev pub hex_pair : ℕ × List ℕ → ℕ × List ℕ → ByteAndRest
hex_pair high low = Some (16 * high.0 + low.0, low.1)

-- What one hexadecimal digit stands for, and a second if there is one.
abbrev pub after_hex : ℕ × List ℕ → ByteAndRest
after_hex high = or_then (digit_at hex_value high.1) (Some high) (hex_pair high)

-- One or two hexadecimal digits.
abbrev pub hex : List ℕ → ByteAndRest
hex text = or_then (digit_at hex_value text) None after_hex

-- The value, if a byte can hold it.
abbrev pub at_most_a_byte : ℕ → List ℕ → ByteAndRest
at_most_a_byte value rest = if nat_le value 255 then Some (value, rest) else None

-- What three octal digits stand for.
abbrev pub after_three : ℕ × List ℕ → ℕ × List ℕ → ℕ × List ℕ → ByteAndRest
after_three high middle low = at_most_a_byte (64 * high.0 + 8 * middle.0 + low.0) low.1

-- What two octal digits stand for, and a third if there is one.
abbrev pub after_two : ℕ × List ℕ → ℕ × List ℕ → ByteAndRest
after_two high low =
    or_then (digit_at octal_value low.1) (Some (8 * high.0 + low.0, low.1)) (after_three high low)

-- What one octal digit stands for, and two more if there are any.
abbrev pub after_one : ℕ × List ℕ → ByteAndRest
after_one high = or_then (digit_at octal_value high.1) (Some high) (after_two high)

-- One to three octal digits, whose value a byte can hold.
abbrev pub octal : List ℕ → ByteAndRest
octal text = or_then (digit_at octal_value text) None after_one

-- A letter that stands for a byte, or octal digits.
abbrev pub letter_or_octal : ℕ → List ℕ → ByteAndRest
letter_or_octal byte rest =
    or_then (letter_byte byte) (octal (byte ∷ rest)) (λ value. Some (value, rest))

-- What stands behind a backslash.
abbrev pub escape : List ℕ → ByteAndRest
escape [] = None
escape (byte ∷ rest) =
    if is_itself byte then Some (byte, rest)
    else (if byte == 120 then hex rest
    else letter_or_octal byte rest)

-- The first byte of a text in quotes. None at a quote, at a bad backslash and at the end.
abbrev pub quoted_byte : List ℕ → ByteAndRest
quoted_byte [] = None
quoted_byte (byte ∷ rest) =
    if byte == 34 then None
    else (if byte == 92 then escape rest
    else Some (byte, rest))

-- Whether the byte stands for itself in quotes: it is no quote and no backslash.
abbrev pub is_plain : ℕ → Bool
is_plain byte = not (byte == 34) && not (byte == 92)
