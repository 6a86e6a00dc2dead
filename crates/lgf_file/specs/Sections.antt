-- The lines of a graph file by their kinds, and the sections that they make.
use Rattle.std.specs.Prelude.{ℕ, ◌+◌, ◌==◌, ◌||◌, Bool, true, false, if◌then◌else◌, List, [], ◌∷◌}
use Rattle.std.specs.Prelude.{Some, None, Option, codes}
use Rattle.std.specs.Str.{bytes_eq}
use Rattle.token_text.specs.Bytes.{is_blank}
use Rattle.token_text.specs.Grammar.{after_blanks}
use Rattle.token_text.specs.Lines.{is_passed_over}
use Rattle.lgf_file.specs.declared.sections.Section.{Section}
use Rattle.lgf_file.specs.declared.sections.Section.TheVariants.{Nodes, Arcs, Attributes}
use Rattle.lgf_file.specs.declared.sections.LineKind.{LineKind}
use Rattle.lgf_file.specs.declared.sections.LineKind.TheVariants.{Passed, Opens, Row}

-- The bytes of a text up to its first blank.
abbrev pub name_of : List ℕ → List ℕ
name_of [] = []
name_of (byte ∷ bytes) = if is_blank byte then [] else byte ∷ name_of bytes

-- The section that a name stands for. None for one that isn't read.
abbrev pub section_named : List ℕ → Option Section
section_named name =
    if bytes_eq name (codes "nodes") then Some Nodes
    else (if bytes_eq name (codes "arcs") || bytes_eq name (codes "edges") then Some Arcs
    else (if bytes_eq name (codes "attributes") then Some Attributes
    else None))

-- What a line that isn't passed over is by its first byte that is no blank: one that begins with @
-- opens the section whose name follows at once, and any other is a row.
abbrev pub kind_from : List ℕ → LineKind
kind_from [] = Row
kind_from (byte ∷ bytes) = if byte == 64 then Opens (section_named (name_of bytes)) else Row

-- What a line is.
abbrev pub kind_of : List ℕ → LineKind
kind_of line = if is_passed_over line then Passed else kind_from (after_blanks line)

-- Whether a line of this kind opens the section.
abbrev pub is_opened_by : Section → LineKind → Bool
is_opened_by Nodes (Opens (Some Nodes)) = true
is_opened_by Arcs (Opens (Some Arcs)) = true
is_opened_by Attributes (Opens (Some Attributes)) = true
is_opened_by section kind = false

-- A line with its number. Lines are numbered from 1.
abbrev pub Line : Type 0
Line = ℕ × List ℕ

-- A line of this kind in front of the rows of the lines behind it.
abbrev pub with_line : LineKind → Line → List Line → List Line
with_line Passed line rows = rows
with_line (Opens section) line rows = []
with_line Row line rows = line ∷ rows

-- The rows of a section, which goes up to the next line that opens one. The first of these lines
-- has this number.
abbrev pub rows_of : ℕ → List (List ℕ) → List Line
rows_of number [] = []
rows_of number (line ∷ lines) = with_line (kind_of line) (number, line) (rows_of (number + 1) lines)

-- The number of the line that opens a section, and the rows of the section.
pub record Part : Type 0 where
  pub at : ℕ
  pub rows : List Line

-- The first section of its kind among lines of which the first has this number.
abbrev pub part_from : ℕ → Section → List (List ℕ) → Option Part
part_from number section [] = None
part_from number section (line ∷ lines) =
    if is_opened_by section (kind_of line) then Some
    (record { at = number; rows = rows_of (number + 1) lines })
    else part_from (number + 1) section lines

-- The first section of its kind in a file.
abbrev pub part : Section → List (List ℕ) → Option Part
part section lines = part_from 1 section lines

-- The rows of the first section of its kind. None where it is absent.
abbrev pub rows_in : Option Part → List Line
rows_in None = []
rows_in (Some found) = found.rows
