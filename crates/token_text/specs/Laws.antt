-- What holds of the grammar, of the written spelling and of the ints.
use Rattle.std.specs.Prelude.{◌≡◌, ℕ, ℤ, List, ◌++◌, ◌+◌, length, Option, FitsSigned}
use Rattle.std.specs.Int.{w64}
use Rattle.std.specs.Fmt.{signed_decimal}
use Rattle.token_text.specs.Lines.{IsInside}
use Rattle.token_text.specs.Grammar.{IsStop, Next, Reads, NoToken, BadBackslash, NoClose}
use Rattle.token_text.specs.LineTokens.{HasTokens}
use Rattle.token_text.specs.Written.{written}
use Rattle.token_text.specs.Numbers.{IsInt}
use Rattle.token_text.specs.declared.tokens.Token.{Token}

-- What can stand next in a line: a token by its start, its end and its bytes, no token at all, or a
-- quoted token that can't be read, by the place of its first bad backslash or, where there is none,
-- of its opening quote.
pub data Stands : Type 0 where
  token : ℕ → ℕ → List ℕ → Stands
  nothing : Stands
  bad_backslash : ℕ → Stands
  open_quote : ℕ → Stands

-- This stands next from a place of the line on.
abbrev pub Meets : List ℕ → ℕ → Stands → Type 0
Meets line at (token start end bytes) = Reads line at start end bytes
Meets line at nothing = NoToken line at
Meets line at (bad_backslash place) = BadBackslash line at place
Meets line at (open_quote place) = NoClose line at place

-- From a place of a line on stands one thing alone.
abbrev pub OneReading : Type 0
OneReading =
    (line : List ℕ) (at : ℕ) (one other : Stands) → Meets line at one → Meets line at other
    → one ≡ other

-- From each place of a line on something stands.
abbrev pub SomeReading : Type 0
SomeReading = (line : List ℕ) (at : ℕ) → (stands : Stands) × Meets line at stands

-- Each line has tokens, up to its end or to one that can't be read.
abbrev pub SomeTokens : Type 0
SomeTokens =
    (line : List ℕ) → (tokens : List Token) × (fault : Option ℕ) × HasTokens line 0 tokens fault

-- What is written for bytes reads as just these bytes, whatever blank or end follows.
abbrev pub WrittenReads : Type 0
WrittenReads = (bytes rest : List ℕ) → IsStop rest → Next (written bytes ++ rest) bytes rest

-- What is written for bytes, behind anything, stands there as their token, from its first byte to
-- its last.
abbrev pub WrittenStands : Type 0
WrittenStands =
    (front bytes rest : List ℕ) → IsStop rest
    → Reads (front ++ (written bytes ++ rest)) (length front) (length front)
    (length front + length (written bytes)) bytes

-- What is written for bytes has no line end.
abbrev pub WrittenInside : Type 0
WrittenInside = (bytes : List ℕ) → IsInside (written bytes)

-- The decimal text of a value that fits 64 bits is read as this value.
abbrev pub DecimalReads : Type 0
DecimalReads = (value : ℤ) → FitsSigned w64 value → IsInt (signed_decimal value) value
