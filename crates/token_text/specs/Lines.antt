-- Lines, as a file has them, and those that are passed over.
use Rattle.std.specs.Prelude.{◌≡◌, ℕ, ◌==◌, Bool, true, cond, List, [], ◌∷◌, ◌++◌}
use Rattle.token_text.specs.Grammar.{after_blanks}

-- None of the bytes is this one.
abbrev pub LacksByte : ℕ → List ℕ → Type 0
LacksByte byte [] = Unit {0}
LacksByte byte (other ∷ bytes) = (other ≡ byte → ⊥) × LacksByte byte bytes

-- No byte is a line end.
abbrev pub IsInside : List ℕ → Type 0
IsInside bytes = LacksByte 10 bytes

-- A line with its end.
abbrev pub ended : List ℕ → List ℕ
ended line = line ++ 10 ∷ []

-- The lines, of which the first begins with the byte.
abbrev pub onto_first : ℕ → List (List ℕ) → List (List ℕ)
onto_first byte [] = (byte ∷ []) ∷ []
onto_first byte (line ∷ lines) = (byte ∷ line) ∷ lines

-- The pieces between line ends. An empty last piece is no line.
abbrev pub lines_of : List ℕ → List (List ℕ)
lines_of [] = []
lines_of (byte ∷ bytes) = cond (byte == 10) ([] ∷ lines_of bytes) (onto_first byte (lines_of bytes))

-- Whether there is no byte, or # is the first.
abbrev pub is_comment : List ℕ → Bool
is_comment [] = true
is_comment (byte ∷ bytes) = byte == 35

-- Whether a line is blank, or its first byte that is no blank is #.
abbrev pub is_passed_over : List ℕ → Bool
is_passed_over line = is_comment (after_blanks line)
