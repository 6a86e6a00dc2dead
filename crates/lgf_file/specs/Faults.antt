-- The first fault of a file that spells no document.
use Rattle.std.specs.Prelude.{◌≡◌, ℕ, ◌+◌, ◌==◌, ◌&&◌, nat_lt, if◌then◌else◌, MatchBool, List, []}
use Rattle.std.specs.Prelude.{◌∷◌, ◌++◌, length, map, drop, slice_index_or, Some, None, Option}
use Rattle.base_items.specs.declared.limits.TheConstants.{MAX_NODES, MAX_ARCS}
use Rattle.token_text.specs.Names.{is_among, has_twice}
use Rattle.lgf_file.specs.Sections.{Line, Part, part, rows_in}
use Rattle.lgf_file.specs.Rows.{Cells, Words}
use Rattle.lgf_file.specs.Documents.{label, dash, label_in, labels_of}
use Rattle.lgf_file.specs.declared.sections.Section.TheVariants.{Nodes, Arcs, Attributes}
use Rattle.lgf_file.specs.declared.faults.LgfFault.{LgfFault}
use Rattle.lgf_file.specs.declared.faults.LgfKind.{LgfKind}
use Rattle.lgf_file.specs.declared.faults.LgfKind.TheVariants.{NoNodes, NoArcs, ArcsFirst, Token}
use Rattle.lgf_file.specs.declared.faults.LgfKind.TheVariants.{TooMany, DashColumn, TwiceColumn}
use Rattle.lgf_file.specs.declared.faults.LgfKind.TheVariants.{NoLabel, ShortRow, LongRow}
use Rattle.lgf_file.specs.declared.faults.LgfKind.TheVariants.{UnknownLabel, TwiceLabel}
use Rattle.lgf_file.specs.declared.faults.LgfKind.TheVariants.{TwiceAttribute}

-- ---- what is at fault with the tokens of a row, by the rows of its section before it; the kinds
-- of faults stand in the order in which they are told

-- The first of two faults.
abbrev pub or_else : Option LgfKind → Option LgfKind → Option LgfKind
or_else (Some kind) other = Some kind
or_else None other = other

-- Names of columns: none may be -, and none may stand twice.
abbrev pub columns_fault : Cells → Option LgfKind
columns_fault columns =
    if is_among dash columns then Some DashColumn
    else (if has_twice columns then Some TwiceColumn
    else None)

-- The first line of the nodes: one of the columns has to be that of the labels.
abbrev pub node_head_fault : Cells → Option LgfKind
node_head_fault columns =
    or_else (columns_fault columns) (if is_among label columns then None else Some NoLabel)

-- The columns that the first line of the arcs names: none where it is a single -.
abbrev pub columns_named : Cells → Cells
columns_named [] = []
columns_named (column ∷ []) = if is_among dash (column ∷ []) then [] else column ∷ []
columns_named (column ∷ other ∷ columns) = column ∷ other ∷ columns

-- The first line of the arcs.
abbrev pub arc_head_fault : Cells → Option LgfKind
arc_head_fault cells = columns_fault (columns_named cells)

-- One row more than there may be.
abbrev pub room_fault : ℕ → List Cells → Option LgfKind
room_fault most rows = if length rows == most then Some TooMany else None

-- Fewer tokens than are wanted, or more.
abbrev pub width_fault : ℕ → Cells → Option LgfKind
width_fault wanted cells =
    if nat_lt (length cells) wanted then Some ShortRow
    else (if nat_lt wanted (length cells) then Some LongRow
    else None)

-- A name that stood before.
abbrev pub twice_fault : LgfKind → List ℕ → Cells → Option LgfKind
twice_fault kind name names = if is_among name names then Some kind else None

-- A node behind others.
abbrev pub node_row_fault : Cells → List Cells → Cells → Option LgfKind
node_row_fault columns rows cells =
    or_else (room_fault MAX_NODES rows)
    (or_else (width_fault (length columns) cells)
    (twice_fault TwiceLabel (label_in columns cells) (labels_of columns rows)))

-- The first token of a row, and the second.
abbrev pub first_cell : Cells → List ℕ
first_cell cells = slice_index_or cells 0 []

abbrev pub second_cell : Cells → List ℕ
second_cell cells = slice_index_or cells 1 []

-- The tokens of an arc behind its source and its target.
abbrev pub values_of : Cells → Cells
values_of cells = drop 2 cells

-- A source or a target that is no node.
abbrev pub ends_fault : Cells → Cells → Option LgfKind
ends_fault labels cells =
    if is_among (first_cell cells) labels && is_among (second_cell cells) labels then None else Some
    UnknownLabel

-- The label of an arc that stood before, if arcs have labels.
abbrev pub arc_label_fault : Cells → List Cells → Cells → Option LgfKind
arc_label_fault columns rows values =
    if is_among label columns then twice_fault TwiceLabel (label_in columns values)
    (labels_of columns rows)
    else None

-- An arc behind others.
abbrev pub arc_row_fault : Cells → Cells → List Cells → Cells → Option LgfKind
arc_row_fault labels columns rows cells =
    or_else (room_fault MAX_ARCS rows)
    (or_else (width_fault (2 + length columns) cells)
    (or_else (ends_fault labels cells)
    (arc_label_fault columns (map values_of rows) (values_of cells))))

-- A row of the nodes.
abbrev pub node_fault : List Cells → Cells → Option LgfKind
node_fault [] cells = node_head_fault cells
node_fault (columns ∷ rows) cells = node_row_fault columns rows cells

-- A row of the arcs between nodes with these labels.
abbrev pub arc_fault : Cells → List Cells → Cells → Option LgfKind
arc_fault labels [] cells = arc_head_fault cells
arc_fault labels (head ∷ rows) cells = arc_row_fault labels (columns_named head) rows cells

-- A row of the attributes.
abbrev pub attribute_fault : List Cells → Cells → Option LgfKind
attribute_fault rows cells =
    or_else (width_fault 2 cells) (twice_fault TwiceAttribute (first_cell cells)
    (map first_cell rows))

-- ---- rows as they are read

-- A row as it is read: the number of its line, and its tokens, or None where one can't be read.
abbrev pub Reading : Type 0
Reading = ℕ × Option Cells

-- The line is read so.
abbrev pub IsRead : List ℕ → Option Cells → Type 0
IsRead text (Some cells) = Words text cells
IsRead text None = (cells : Cells) → Words text cells → ⊥

-- The lines are read so.
abbrev pub AreRead : List Line → List Reading → Type 0
AreRead [] [] = Unit {0}
AreRead [] (reading ∷ readings) = ⊥
AreRead (line ∷ lines) [] = ⊥
AreRead (line ∷ lines) (reading ∷ readings) =
    (reading.0 ≡ line.0) × IsRead line.1 reading.1 × AreRead lines readings

-- The row, if it could be read.
abbrev pub row_of : Option Cells → List Cells
row_of None = []
row_of (Some cells) = cells ∷ []

-- The rows that could be read.
abbrev pub rows_read : List Reading → List Cells
rows_read [] = []
rows_read (reading ∷ readings) = row_of reading.1 ++ rows_read readings

-- ---- the first fault of a section

-- What is at fault with a row behind others.
abbrev pub row_fault : (List Cells → Cells → Option LgfKind) → List Cells → Option Cells
    → Option LgfKind
row_fault fault before None = Some Token
row_fault fault before (Some cells) = fault before cells

-- The fault of the line, or else the later one.
abbrev pub told_or : ℕ → Option LgfKind → Option LgfFault → Option LgfFault
told_or number (Some kind) later = Some (record { line = number; kind = kind })
told_or number None later = later

-- The first fault of rows behind others, by what is at fault with a row.
abbrev pub first_bad : (List Cells → Cells → Option LgfKind) → List Cells → List Reading
    → Option LgfFault
first_bad fault before [] = None
first_bad fault before (reading ∷ readings) =
    told_or reading.0 (row_fault fault before reading.1)
    (first_bad fault (before ++ row_of reading.1) readings)

-- ---- the first fault of a file

-- The labels of nodes with these rows, of which the first names the columns.
abbrev pub labels_read : List Cells → Cells
labels_read [] = []
labels_read (columns ∷ rows) = labels_of columns rows

-- The first of two faults, of which any one stands before any other.
abbrev pub fault_or : Option LgfFault → Option LgfFault → Option LgfFault
fault_or (Some fault) other = Some fault
fault_or None other = other

-- The first of two faults by their lines.
abbrev pub earlier : Option LgfFault → Option LgfFault → Option LgfFault
earlier None other = other
earlier (Some one) None = Some one
earlier (Some one) (Some other) = Some (if nat_lt other.line one.line then other else one)

-- The first fault of the nodes and of the arcs behind them, which are read by the labels of the
-- nodes.
abbrev pub graph_fault : List Reading → List Reading → Option LgfFault
graph_fault nodes arcs =
    fault_or (first_bad node_fault [] nodes)
    (first_bad (arc_fault (labels_read (rows_read nodes))) [] arcs)

-- The first fault of the rows of the three sections.
abbrev pub rows_fault : List Reading → List Reading → List Reading → Option LgfFault
rows_fault nodes arcs attributes =
    earlier (graph_fault nodes arcs) (first_bad attribute_fault [] attributes)

-- The lines of the three sections have this first fault.
pub record RowsFault (nodes arcs attributes : List Line) (fault : LgfFault) : Type 0 where
  pub node_readings : List Reading
  pub arc_readings : List Reading
  pub attribute_readings : List Reading
  pub nodes_are : AreRead nodes node_readings
  pub arcs_are : AreRead arcs arc_readings
  pub attributes_are : AreRead attributes attribute_readings
  pub fault_is : rows_fault node_readings arc_readings attribute_readings ≡ Some fault

-- The first fault by the number of lines and one more, and by the sections: of the whole file, or
-- else of the rows.
abbrev pub FaultBy : ℕ → Option Part → Option Part → List Line → LgfFault → Type 0
FaultBy end None arcs attributes fault = fault ≡ record { line = end; kind = NoNodes }
FaultBy end (Some nodes) None attributes fault = fault ≡ record { line = end; kind = NoArcs }
FaultBy end (Some nodes) (Some arcs) attributes fault = MatchBool (nat_lt arcs.at nodes.at)
    (fault ≡ record { line = arcs.at; kind = ArcsFirst })
    (RowsFault nodes.rows arcs.rows attributes fault)

-- The first fault of the lines of a file.
abbrev pub FirstFault : List (List ℕ) → LgfFault → Type 0
FirstFault lines fault =
    FaultBy (length lines + 1) (part Nodes lines) (part Arcs lines)
    (rows_in (part Attributes lines)) fault
