-- The grammar of tokens. The rest, here and below, is what follows in the line.
use Rattle.std.specs.Prelude.{◌≡◌, ℕ, ◌+◌, ◌*◌, ◌≤◌, Bool, IsTrue, if◌then◌else◌, List, [], ◌∷◌}
use Rattle.std.specs.Prelude.{◌++◌, length, drop, Some, None, Option, option_map}
use Rattle.std.specs.List.{list_all}
use Rattle.token_text.specs.Bytes.{is_blank, is_visible, is_itself, letter_byte, hex_value}
use Rattle.token_text.specs.Bytes.{octal_value}

-- What the digit at the head of a text is worth, and the rest. None where no digit stands there.
abbrev pub digit_at : (ℕ → Option ℕ) → List ℕ → Option (ℕ × List ℕ)
digit_at value [] = None
digit_at value (byte ∷ rest) = option_map (λ worth. (worth, rest)) (value byte)

-- The text is a digit of this worth, and the rest.
abbrev pub Digit : (ℕ → Option ℕ) → List ℕ → ℕ → List ℕ → Type 0
Digit value text worth rest = digit_at value text ≡ Some (worth, rest)

-- The text begins with no digit.
abbrev pub NoDigit : (ℕ → Option ℕ) → List ℕ → Type 0
NoDigit value text = digit_at value text ≡ None

-- The text, which follows a backslash, is an escape that stands for the byte, and the rest. As many
-- digits belong to it as stand there: two hexadecimal ones at most behind an x, and three octal
-- ones at most.
pub data Escape (text : List ℕ) (byte : ℕ) (rest : List ℕ) : Type 0 where
  itself : text ≡ byte ∷ rest → IsTrue (is_itself byte) → Escape text byte rest
  letter : (name : ℕ) → text ≡ name ∷ rest → letter_byte name ≡ Some byte → Escape text byte rest
  hex_1 : (more : List ℕ)
      → text ≡ 120 ∷ more → Digit hex_value more byte rest → NoDigit hex_value rest
      → Escape text byte rest
  hex_2 : (more after : List ℕ) (high low : ℕ)
      → text ≡ 120 ∷ more → Digit hex_value more high after → Digit hex_value after low rest
      → byte ≡ 16 * high + low
      → Escape text byte rest
  octal_1 : Digit octal_value text byte rest → NoDigit octal_value rest → Escape text byte rest
  octal_2 : (after : List ℕ) (high low : ℕ)
      → Digit octal_value text high after → Digit octal_value after low rest
      → NoDigit octal_value rest
      → byte ≡ 8 * high + low
      → Escape text byte rest
  octal_3 : (after last : List ℕ) (high middle low : ℕ)
      → Digit octal_value text high after → Digit octal_value after middle last
      → Digit octal_value last low rest
      → byte ≡ 64 * high + 8 * middle + low → byte ≤ 255
      → Escape text byte rest

-- The text, which stands in quotes, goes on with the byte, plain or as an escape, and then the
-- rest.
pub data QuotedByte (text : List ℕ) (byte : ℕ) (rest : List ℕ) : Type 0 where
  plain : text ≡ byte ∷ rest → (byte ≡ 34 → ⊥) → (byte ≡ 92 → ⊥) → QuotedByte text byte rest
  escaped : (more : List ℕ) → text ≡ 92 ∷ more → Escape more byte rest → QuotedByte text byte rest

-- The text, which stands in quotes, goes on with these bytes, and then the rest.
abbrev pub QuotedBytes : List ℕ → List ℕ → List ℕ → Type 0
QuotedBytes text [] rest = text ≡ rest
QuotedBytes text (byte ∷ bytes) rest =
    (more : List ℕ) × QuotedByte text byte more × QuotedBytes more bytes rest

-- No byte is a blank.
abbrev pub is_word_bytes : List ℕ → Bool
is_word_bytes bytes = list_all is_visible bytes

-- At least one byte, the first one no double quote, and none a blank.
abbrev pub IsPlain : List ℕ → Type 0
IsPlain [] = ⊥
IsPlain (byte ∷ bytes) = (byte ≡ 34 → ⊥) × IsTrue (is_word_bytes (byte ∷ bytes))

-- What may follow a plain token: a blank, or the end.
abbrev pub IsStop : List ℕ → Type 0
IsStop [] = Unit {0}
IsStop (byte ∷ bytes) = IsTrue (is_blank byte)

-- The text is a token that stands for the bytes, and the rest.
pub data Word (text bytes rest : List ℕ) : Type 0 where
  plain_word : text ≡ bytes ++ rest → IsPlain bytes → IsStop rest → Word text bytes rest
  quoted_word : (more : List ℕ) → text ≡ 34 ∷ more → QuotedBytes more bytes (34 ∷ rest)
      → Word text bytes rest

-- What is left of a text from its first byte on that is no blank.
abbrev pub after_blanks : List ℕ → List ℕ
after_blanks [] = []
after_blanks (byte ∷ bytes) = if is_blank byte then after_blanks bytes else byte ∷ bytes

-- The text is blanks and a token that stands for the bytes, and the rest.
abbrev pub Next : List ℕ → List ℕ → List ℕ → Type 0
Next text bytes rest = Word (after_blanks text) bytes rest

-- The next token from a place of the line on begins and ends at these places, and stands for the
-- bytes.
pub record Reads (line : List ℕ) (at start end : ℕ) (bytes : List ℕ) : Type 0 where
  pub word : Word (after_blanks (drop at line)) bytes (drop end line)
  pub start_is : start + length (after_blanks (drop at line)) ≡ length line
  pub end_in : end ≤ length line

-- The next token is quoted, its bytes can be read up to the place, and there stands a backslash
-- that begins no escape.
pub record BadBackslash (line : List ℕ) (at place : ℕ) : Type 0 where
  pub more : List ℕ
  pub quoted : after_blanks (drop at line) ≡ 34 ∷ more
  pub bytes : List ℕ
  pub tail : List ℕ
  pub read : QuotedBytes more bytes (92 ∷ tail)
  pub bad : (byte : ℕ) (rest : List ℕ) → Escape tail byte rest → ⊥
  pub place_is : place + length (92 ∷ tail) ≡ length line

-- The next token begins with a quote at the place, and can be read to the end of the line
-- with no closing quote.
pub record NoClose (line : List ℕ) (at place : ℕ) : Type 0 where
  pub more : List ℕ
  pub quoted : after_blanks (drop at line) ≡ 34 ∷ more
  pub bytes : List ℕ
  pub read : QuotedBytes more bytes []
  pub place_is : place + length (34 ∷ more) ≡ length line

-- From the place on there are only blanks.
abbrev pub NoToken : List ℕ → ℕ → Type 0
NoToken line at = after_blanks (drop at line) ≡ []
