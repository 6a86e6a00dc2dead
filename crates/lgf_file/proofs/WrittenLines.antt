-- The lines of a written document.
use Rattle.std.proofs.Common.{◌≡◌, ℕ, List, [], ◌∷◌, ◌++◌, cond, Bool, true, false, refl, ap}
use Rattle.std.proofs.Common.{◌∙◌, append_assoc, append-nil, arith, ◌+◌, ◌<◌, map, length}
use Rattle.std.specs.Prelude.{◌==◌, ◌&&◌, not, All}
use Rattle.std.specs.List.{flat_map, list_all}
use Rattle.std.proofs.lemmas.Bool.{and_parts}
use Rattle.std.proofs.lemmas.List.Elements.{All-nil, All-cons, All-head, All-tail}
use Rattle.token_text.specs.Bytes.{is_blank}
use Rattle.token_text.specs.Grammar.{after_blanks}
use Rattle.token_text.specs.Lines.{IsInside, lines_of, ended}
use Rattle.token_text.specs.Written.{written, is_bare, starts_bare, is_bare_byte, spelled}
use Rattle.token_text.proofs.WrittenLaws.{written_reads, written_inside}
use Rattle.token_text.proofs.FirstLine.{lines_first}
use Rattle.lgf_file.specs.Sections.{kind_of, is_opened_by, Line, rows_of, part_from}
use Rattle.lgf_file.specs.Rows.{Cells, Words, Rows}
use Rattle.lgf_file.specs.Documents.{dash, head_cells, attribute_cells}
use Rattle.lgf_file.specs.Plain.{cell_text, row_text, head_text, attribute_text}
use Rattle.lgf_file.specs.declared.sections.LineKind.TheVariants.{Row}
use Rattle.lgf_file.specs.declared.sections.Section.{Section}
use Rattle.lgf_file.specs.declared.sections.Section.TheVariants.{Nodes, Arcs, Attributes}

-- ---- tokens

-- A text with the same bytes behind its blanks has the same tokens.
words_behind : (text other : List ℕ) (cells : Cells) → after_blanks other ≡ after_blanks text
    → Words text cells → Words other cells
words_behind text other [] same words = same ∙ words
words_behind text other (cell ∷ cells) same words = (words.0, rw same words.1, words.2)

-- The text of a row has its tokens.
row_words : (cells : Cells) → Words (row_text cells) cells
row_words [] = refl
row_words (cell ∷ cells) = (
  9 ∷ row_text cells,
  rw append_assoc (written_reads cell (9 ∷ row_text cells) refl),
  words_behind (row_text cells) (9 ∷ row_text cells) cells refl (row_words cells),
)

-- A written token has that token alone.
token_words : (cell : List ℕ) → Words (written cell) (cell ∷ [])
token_words cell = ([], rw append-nil at (written_reads cell [] tt), refl)

-- ---- kinds

-- A text that needs no quotes begins a row.
bare_row : (cell rest : List ℕ) → is_bare cell ≡ true → kind_of (cell ++ rest) ≡ Row
bare_row [] rest bare = absurd (cc)
bare_row (byte ∷ bytes) rest bare =
    let parts =
    and_parts (starts_bare (byte ∷ bytes)) (list_all is_bare_byte (byte ∷ bytes)) bare in
    let first = and_parts (is_bare_byte byte) (list_all is_bare_byte bytes) parts.1 in
    bare_begins (bytes ++ rest) parts.0 first.0
  where
    bare_begins : (more : List ℕ) → not (byte == 35) && not (byte == 64) ≡ true
        → is_bare_byte byte ≡ true → kind_of (byte ∷ more) ≡ Row
    bare_begins more starts visible =
        let no_blank : is_blank byte ≡ false = grind arith in
        let no_comment : (byte == 35) ≡ false = grind arith in
        let no_section : (byte == 64) ≡ false = grind arith in
        rw (no_blank, no_comment, no_section) refl

-- A written token begins a row.
written_row : (cell rest : List ℕ) → kind_of (written cell ++ rest) ≡ Row
written_row cell rest = by_test (is_bare cell) refl
  where
    by_test : (test : Bool) → is_bare cell ≡ test
        → kind_of (cond test cell (34 ∷ flat_map spelled cell ++ 34 ∷ []) ++ rest) ≡ Row
    by_test true bare = bare_row cell rest bare
    by_test false bare = refl

-- The text of a row with a token is a row.
row_is_row : (cell : List ℕ) (cells : Cells) → kind_of (row_text (cell ∷ cells)) ≡ Row
row_is_row cell cells = rw append_assoc (written_row cell (9 ∷ row_text cells))

-- ---- line ends

-- Where no byte passes for a line end, none is one.
pub inside_by_test : (bytes : List ℕ) → list_all (λ byte. not (byte == 10)) bytes ≡ true
    → IsInside bytes
inside_by_test [] test = tt
inside_by_test (byte ∷ bytes) test =
    let parts = and_parts (not (byte == 10)) (list_all (λ own. not (own == 10)) bytes) test in
    let other : byte ≡ 10 → ⊥ = λ end. absurd (cc (rw end at parts.0)) in
    (other, inside_by_test bytes parts.1)

-- Two texts without a line end have none together.
inside_both : (front rest : List ℕ) → IsInside front → IsInside rest → IsInside (front ++ rest)
inside_both [] rest front_inside rest_inside = rest_inside
inside_both (byte ∷ front) rest front_inside rest_inside =
    (front_inside.0, inside_both front rest front_inside.1 rest_inside)

-- The text of a row has none.
row_inside : (cells : Cells) → IsInside (row_text cells)
row_inside [] = tt
row_inside (cell ∷ cells) =
    inside_both (cell_text cell) (row_text cells)
    (inside_both (written cell) (9 ∷ []) (written_inside cell) (inside_by_test (9 ∷ []) refl))
    (row_inside cells)

-- ---- lines of rows

-- The text is a row with these tokens, without a line end.
pub record RowText (text : List ℕ) (cells : Cells) : Type 0 where
  pub words : Words text cells
  pub row : kind_of text ≡ Row
  pub inside : IsInside text

-- That of a row with a token.
pub row_right : (cells : Cells) → 0 < length cells → RowText (row_text cells) cells
row_right [] some = absurd (omega arith)
row_right (cell ∷ cells) some = record {
  words = row_words (cell ∷ cells);
  row = row_is_row cell cells;
  inside = row_inside (cell ∷ cells);
}

-- The first line of the arcs.
pub head_right : (columns : Cells) → RowText (head_text columns) (head_cells columns)
head_right [] = record { words = token_words dash; row = refl; inside = inside_by_test dash refl }
head_right (column ∷ columns) =
    let cells = column ∷ columns in
    record {
      words = words_behind (row_text cells) (9 ∷ 9 ∷ row_text cells) cells refl (row_words cells);
      row = row_is_row column columns;
      inside = inside_both (9 ∷ 9 ∷ []) (row_text cells) (inside_by_test (9 ∷ 9 ∷ []) refl)
          (row_inside cells);
    }

-- The line of an attribute.
pub attribute_right : (attribute : List ℕ × List ℕ)
    → RowText (attribute_text attribute) (attribute_cells attribute)
attribute_right attribute =
    let value = written attribute.1 in
    let last = words_behind value (32 ∷ value) (attribute.1 ∷ []) refl (token_words attribute.1) in
    let blank = inside_both (32 ∷ []) value (inside_by_test (32 ∷ []) refl)
    (written_inside attribute.1) in
    record {
      words = (32 ∷ value, written_reads attribute.0 (32 ∷ value) refl, last);
      row = written_row attribute.0 (32 ∷ value);
      inside = inside_both (written attribute.0) (32 ∷ value) (written_inside attribute.0) blank;
    }

-- Lines with their numbers, of which the first is this one.
abbrev pub numbered : ℕ → List (List ℕ) → List Line
numbered number [] = []
numbered number (line ∷ lines) = (number, line) ∷ numbered (number + 1) lines

-- The lines are rows with these tokens, without a line end.
pub record RowTexts (texts : List (List ℕ)) (rows : List Cells) : Type 0 where
  pub words : (number : ℕ) → Rows (numbered number texts) rows
  pub are_rows : All (λ text. kind_of text ≡ Row) texts
  pub inside : All IsInside texts

-- The line of a row in front of others.
pub texts_more : (text : List ℕ) (cells : Cells) (texts : List (List ℕ)) (rows : List Cells)
    → RowText text cells → RowTexts texts rows → RowTexts (text ∷ texts) (cells ∷ rows)
texts_more text cells texts rows first others = record {
  words = λ number. (first.words, others.words (number + 1));
  are_rows = All-cons (λ own. kind_of own ≡ Row) text texts first.row others.are_rows;
  inside = All-cons IsInside text texts first.inside others.inside;
}

-- The lines of items.
pub texts_of : {Item : Type 0} (text : Item → List ℕ) (cells : Item → Cells) (items : List Item)
    → All (λ item. RowText (text item) (cells item)) items
    → RowTexts (map text items) (map cells items)
texts_of text cells [] all =
    record { words = λ number. tt; are_rows = All-nil _; inside = All-nil IsInside }
texts_of {Item} text cells (item ∷ items) all =
    let Fits : Item → Type 0 = λ own. RowText (text own) (cells own) in
    texts_more _ _ _ _ (All-head Fits item items all)
    (texts_of text cells items (All-tail Fits item items all))

-- Lines that were joined, each with its end, are these lines again.
pub lines_joined : (lines : List (List ℕ)) → All IsInside lines
    → lines_of (flat_map ended lines) ≡ lines
lines_joined [] inside = refl
lines_joined (line ∷ lines) inside =
    ap lines_of (append_assoc line (10 ∷ []) (flat_map ended lines))
    ∙ lines_first line (flat_map ended lines) (All-head IsInside line lines inside)
    ∙ ap (λ more. line ∷ more) (lines_joined lines (All-tail IsInside line lines inside))

-- ---- sections

-- A row opens no section.
row_opens_none : (section : Section) → is_opened_by section Row ≡ false
row_opens_none Nodes = refl
row_opens_none Arcs = refl
row_opens_none Attributes = refl

module _ (more : List (List ℕ)) where
  -- Rows in front of the end of a section are its rows.
  pub rows_numbered : ((number : ℕ) → rows_of number more ≡ []) → (number : ℕ)
      → (lines : List (List ℕ)) → All (λ line. kind_of line ≡ Row) lines
      → rows_of number (lines ++ more) ≡ numbered number lines
  rows_numbered ends number [] rows = ends number
  rows_numbered ends number (line ∷ lines) rows = rw (
    All-head (λ own. kind_of own ≡ Row) line lines rows,
    rows_numbered ends (number + 1) lines (All-tail (λ own. kind_of own ≡ Row) line lines rows),
  ) refl

  -- No section begins among rows.
  pub part_behind : (section : Section) (number : ℕ) (lines : List (List ℕ))
      → All (λ line. kind_of line ≡ Row) lines
      → part_from number section (lines ++ more) ≡ part_from (number + length lines) section more
  part_behind section number [] rows = ap (λ own. part_from own section more) (omega arith)
  part_behind section number (line ∷ lines) rows =
      rw (All-head (λ own. kind_of own ≡ Row) line lines rows, row_opens_none section)
      (part_behind section (number + 1) lines (All-tail (λ own. kind_of own ≡ Row) line lines rows)
      ∙ ap (λ own. part_from own section more) (omega arith))
