-- The tokens of rows.
use Rattle.std.specs.Prelude.{◌≡◌, ℕ, List, [], ◌∷◌}
use Rattle.token_text.specs.Grammar.{after_blanks, Next}
use Rattle.lgf_file.specs.Sections.{Line}

-- The tokens of a row, in their order.
abbrev pub Cells : Type 0
Cells = List (List ℕ)

-- The line has these tokens and no other.
abbrev pub Words : List ℕ → Cells → Type 0
Words text [] = after_blanks text ≡ []
Words text (cell ∷ cells) = (rest : List ℕ) × Next text cell rest × Words rest cells

-- The lines are rows with these tokens.
abbrev pub Rows : List Line → List Cells → Type 0
Rows [] [] = Unit {0}
Rows [] (cells ∷ rows) = ⊥
Rows (line ∷ lines) [] = ⊥
Rows (line ∷ lines) (cells ∷ rows) = Words line.1 cells × Rows lines rows
