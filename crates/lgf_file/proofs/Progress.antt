-- Rows of a section, taken in one after the other.
use Rattle.std.proofs.Common.{◌≡◌, List, [], ◌∷◌, ◌++◌, None, Some, Option, refl, ◌∙◌}
use Rattle.std.proofs.Common.{append_assoc, append-nil}
use Rattle.lgf_file.specs.Sections.{Line}
use Rattle.lgf_file.specs.Rows.{Cells, Words}
use Rattle.lgf_file.specs.Faults.{Reading, IsRead, AreRead, row_fault, first_bad}
use Rattle.lgf_file.specs.Reading.{Finds, AllRead}
use Rattle.lgf_file.specs.declared.faults.LgfKind.{LgfKind}
use Rattle.lgf_file.specs.declared.faults.LgfFault.{LgfFault}
use Rattle.lgf_file.proofs.Readings.{first_read}

-- Of the lines some were read as these rows, and the others are left: where the rows of these are
-- in order behind them, all are, and the first fault of these is that of all.
pub record Progress (fault : List Cells → Cells
    → Option LgfKind) (lines : List Line) (read : List Cells) (left : List Line) : Type 0 where
  pub rows : (rest : List Cells) → AllRead fault read left rest
      → AllRead fault [] lines (read ++ rest)
  pub finds : (found : Option LgfFault) → ((readings : List Reading) → AreRead left readings
      → first_bad fault read readings ≡ found) → Finds fault lines found

module _ (fault : List Cells → Cells → Option LgfKind) (lines : List Line) where
  -- Nothing was read yet.
  pub begin : (read : List Cells) → read ≡ [] → Progress fault lines read lines
  begin read none = rw none (record { rows = λ rest are. are; finds = λ found is. is })

  -- A row was read that isn't at fault.
  pub push : (read after : List Cells) (left more : List Line) (line : Line) (cells : Cells)
      → Progress fault lines read left → left ≡ line ∷ more → Words line.1 cells
      → fault read cells ≡ None → after ≡ read ++ cells ∷ [] → Progress fault lines after more
  push read after left more line cells was left_is words none after_is =
      rw after_is (record {
        rows = λ rest all. rw append_assoc (was.rows (cells ∷ rest)
            (record { read_is = rw left_is (words, all.read_is); fine = (none, all.fine) }));
        finds = λ found is. was.finds found (λ readings are.
            let first = first_read fault read line more (Some cells) readings words
            (rw left_is at are) in
            first.2 ∙ rw none (is first.0 first.1));
      })

  -- No row is left.
  pub finish : (read : List Cells) (left : List Line) → Progress fault lines read left → left ≡ []
      → AllRead fault [] lines read
  finish read left was none =
      rw append-nil at (was.rows [] (record { read_is = rw none tt; fine = tt }))

  -- The next row is at fault.
  pub fail : (read : List Cells) (left more : List Line) (line : Line) (row : Option Cells)
      (kind : LgfKind)
      → Progress fault lines read left → left ≡ line ∷ more → IsRead line.1 row
      → row_fault fault read row ≡ Some kind
      → Finds fault lines (Some (record { line = line.0; kind = kind }))
  fail read left more line row kind was left_is row_is bad =
      was.finds _ (λ readings are.
      let first = first_read fault read line more row readings row_is (rw left_is at are) in
      first.2 ∙ rw bad refl)
