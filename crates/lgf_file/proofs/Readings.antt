-- Lines are read in one way alone, and each is read in some way.
use Rattle.std.proofs.Common.{◌≡◌, ℕ, List, [], ◌∷◌, ◌++◌, Some, None, Option, refl, sym, ap, ◌∙◌}
use Rattle.token_text.proofs.SomeReading.{TokensFrom, some_tokens}
use Rattle.lgf_file.specs.Sections.{Line}
use Rattle.lgf_file.specs.Rows.{Cells, Rows}
use Rattle.lgf_file.specs.Faults.{Reading, IsRead, AreRead, row_of, rows_read, row_fault}
use Rattle.lgf_file.specs.Faults.{told_or, first_bad}
use Rattle.lgf_file.specs.Reading.{InOrder, AllRead}
use Rattle.lgf_file.specs.declared.faults.LgfKind.{LgfKind}
use Rattle.lgf_file.proofs.LineTokens.{words_one, cells_of, has_words, no_words}

-- ---- one way

read_one : (text : List ℕ) (one other : Option Cells) → IsRead text one → IsRead text other
    → one ≡ other
read_one text None None none other_none = refl
read_one text None (Some cells) none words = absurd (none cells words)
read_one text (Some cells) None words none = absurd (none cells words)
read_one text (Some cells) (Some others) words other_words =
    ap (λ own. Some own) (words_one text cells others words other_words)

-- Lines are read in one way at most.
pub readings_one : (lines : List Line) (one other : List Reading) → AreRead lines one
    → AreRead lines other → one ≡ other
readings_one [] [] [] are other_are = refl
readings_one [] [] (reading ∷ other) are other_are = absurd other_are
readings_one [] (reading ∷ one) other are other_are = absurd are
readings_one (line ∷ lines) [] other are other_are = absurd are
readings_one (line ∷ lines) (reading ∷ one) [] are other_are = absurd other_are
readings_one (line ∷ lines) (reading ∷ one) (others ∷ other) are other_are =
    let numbers = are.0 ∙ sym other_are.0 in
    let heads = read_one line.1 reading.1 others.1 are.1 other_are.1 in
    let tails = readings_one lines one other are.2 other_are.2 in
    (λ i. (numbers i, heads i) ∷ tails i)

-- ---- some way

pub some_read : (text : List ℕ) → (read : Option Cells) × IsRead text read
some_read text = by_tokens (some_tokens text)
  where
    by_tokens : TokensFrom text 0 → (read : Option Cells) × IsRead text read
    by_tokens (tokens, None, has) = (Some (cells_of tokens), has_words text 0 tokens has)
    by_tokens (tokens, Some place, has) = (None, no_words text 0 tokens place has)

pub some_readings : (lines : List Line) → (readings : List Reading) × AreRead lines readings
some_readings [] = ([], tt)
some_readings (line ∷ lines) =
    let read = some_read line.1 in
    let rest = some_readings lines in
    ((line.0, read.0) ∷ rest.0, (refl, read.1, rest.1))

-- ---- rows in order have no fault

-- How the first line and the others are read, where it can be read only so.
pub first_read : (fault : List Cells → Cells → Option LgfKind) (before : List Cells) (line : Line)
    (lines : List Line) (row : Option Cells) (readings : List Reading) → IsRead line.1 row
    → AreRead (line ∷ lines) readings
    → (rest : List Reading) × AreRead lines rest
    × (first_bad fault before readings ≡ told_or line.0 (row_fault fault before row)
    (first_bad fault (before ++ row_of row) rest))
first_read fault before line lines row [] row_is are = absurd are
first_read fault before line lines row (reading ∷ readings) row_is are =
    let one = read_one line.1 reading.1 row are.1 row_is in (
      readings,
      are.2,
      λ i. told_or (are.0 i) (row_fault fault before (one i))
          (first_bad fault (before ++ row_of (one i)) readings),
    )

-- Lines with these rows are read so, and where the rows are in order without a fault.
pub record ReadAs (readings : List Reading) (rows : List Cells) : Type 0 where
  pub rows_are : rows_read readings ≡ rows
  pub fine : (fault : List Cells → Cells → Option LgfKind) (before : List Cells)
      → InOrder fault before rows → first_bad fault before readings ≡ None

pub read_as : (lines : List Line) (rows : List Cells) (readings : List Reading) → Rows lines rows
    → AreRead lines readings → ReadAs readings rows
read_as [] [] [] rows are = record { rows_are = refl; fine = λ fault before order. refl }
read_as [] [] (reading ∷ readings) rows are = absurd are
read_as [] (cells ∷ more) readings rows are = absurd rows
read_as (line ∷ lines) [] readings rows are = absurd rows
read_as (line ∷ lines) (cells ∷ more) [] rows are = absurd are
read_as (line ∷ lines) (cells ∷ more) (reading ∷ readings) rows are =
    let rest = read_as lines more readings rows.1 are.2 in
    let one = read_one line.1 reading.1 (Some cells) are.1 rows.0 in
    record {
      rows_are = ap (λ row. row_of row ++ rows_read readings) one
          ∙ ap (λ own. cells ∷ own) rest.rows_are;
      fine = λ fault before order.
          (λ i. told_or reading.0 (row_fault fault before (one i))
          (first_bad fault (before ++ row_of (one i)) readings))
          ∙ ap (λ kind. told_or reading.0 kind (first_bad fault (before ++ cells ∷ []) readings))
          order.0
          ∙ rest.fine fault (before ++ cells ∷ []) order.1;
    }

-- Lines have one list of rows at most.
pub rows_one : (lines : List Line) (one other : List Cells) → Rows lines one → Rows lines other
    → one ≡ other
rows_one lines one other rows other_rows =
    let read = some_readings lines in
    sym (read_as lines one read.0 rows read.1).rows_are
    ∙ (read_as lines other read.0 other_rows read.1).rows_are

-- Lines without a fault have rows, which are in order.
pub none_bad : (fault : List Cells → Cells → Option LgfKind) (before : List Cells)
    (lines : List Line)
    (readings : List Reading) → AreRead lines readings → first_bad fault before readings ≡ None
    → AllRead fault before lines (rows_read readings)
none_bad fault before [] [] are none = record { read_is = tt; fine = tt }
none_bad fault before [] (reading ∷ readings) are none = absurd are
none_bad fault before (line ∷ lines) [] are none = absurd are
none_bad fault before (line ∷ lines) ((number, None) ∷ readings) are none = absurd (cc)
none_bad fault before (line ∷ lines) ((number, Some cells) ∷ readings) are none =
    by_found (none_bad fault (before ++ cells ∷ []) lines readings are.2) (fault before cells) refl
    none
  where
    by_found : (first_bad fault (before ++ cells ∷ []) readings ≡ None
        → AllRead fault (before ++ cells ∷ []) lines (rows_read readings))
        → (found : Option LgfKind) → fault before cells ≡ found
        → told_or number found (first_bad fault (before ++ cells ∷ []) readings) ≡ None
        → AllRead fault before (line ∷ lines) (cells ∷ rows_read readings)
    by_found next (Some kind) is told = absurd (cc)
    by_found next None is told =
        let rest = next told in
        record { read_is = (are.1, rest.read_is); fine = (is, rest.fine) }
