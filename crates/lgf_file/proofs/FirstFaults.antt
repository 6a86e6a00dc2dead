-- The first fault of a file is one alone, and is there where no document is spelled.
use Rattle.std.proofs.Common.{◌≡◌, ℕ, ◌+◌, true, false, List, length, Some, None, refl, ap, Option}
use Rattle.std.proofs.Common.{sym, ◌∙◌, [], ◌∷◌, arith, map, ⊎_elim}
use Rattle.std.specs.Prelude.{nat_lt}
use Rattle.std.proofs.lemmas.Bool.{cases_Bool, le-ltb}
use Rattle.token_text.specs.Lines.{lines_of}
use Rattle.lgf_file.specs.Sections.{Part, part, rows_in, Line}
use Rattle.lgf_file.specs.Faults.{RowsFault, FirstFault, Reading, AreRead, rows_fault, FaultBy}
use Rattle.lgf_file.specs.Faults.{rows_read, first_bad, labels_read}
use Rattle.lgf_file.specs.Faults.{node_fault, arc_fault, attribute_fault}
use Rattle.lgf_file.specs.Laws.{HasFault}
use Rattle.lgf_file.specs.Rows.{Cells}
use Rattle.lgf_file.specs.Documents.{labels_of, node_labels, arc_rows, IsTable, AreArcs}
use Rattle.lgf_file.specs.Documents.{AreAttributes, NodesSpell, ArcsSpell, AttributesSpell}
use Rattle.lgf_file.specs.Documents.{attribute_cells, Spells}
use Rattle.lgf_file.specs.declared.sections.Section.TheVariants.{Nodes, Arcs, Attributes}
use Rattle.lgf_file.specs.declared.faults.LgfFault.{LgfFault}
use Rattle.lgf_file.specs.declared.faults.LgfKind.TheVariants.{NoNodes, NoArcs, ArcsFirst}
use Rattle.lgf_file.specs.declared.documents.Doc.{Doc}
use Rattle.lgf_file.specs.declared.documents.Table.{Table}
use Rattle.lgf_file.specs.declared.documents.Link.{Link}
use Rattle.lgf_file.proofs.Readings.{readings_one, read_as, some_readings}
use Rattle.lgf_file.proofs.NodeTables.{nodes_fine}
use Rattle.lgf_file.proofs.LinkLists.{arcs_fine}
use Rattle.lgf_file.proofs.AttributeLists.{attributes_fine}

-- ---- the first fault of a file by its sections

module _ (lines : List (List ℕ)) where
  pub no_nodes : (number : ℕ) → part Nodes lines ≡ None → number ≡ length lines + 1
      → FirstFault lines (record { line = number; kind = NoNodes })
  no_nodes number none number_is =
      rw none (ap (λ own. record { line = own; kind = NoNodes }) number_is)

  pub no_arcs : (number : ℕ) (nodes : Part) → part Nodes lines ≡ Some nodes → part Arcs lines ≡ None
      → number ≡ length lines + 1 → FirstFault lines (record { line = number; kind = NoArcs })
  no_arcs number nodes nodes_is none number_is =
      rw (nodes_is, none) (ap (λ own. record { line = own; kind = NoArcs }) number_is)

  module _ (nodes arcs : Part) (nodes_is : part Nodes lines ≡ Some nodes)
      (arcs_is : part Arcs lines ≡ Some arcs) where
    pub arcs_first : nat_lt arcs.at nodes.at ≡ true
        → FirstFault lines (record { line = arcs.at; kind = ArcsFirst })
    arcs_first before = rw (nodes_is, arcs_is, before) refl

    pub rows_first : (fault : LgfFault) → nat_lt arcs.at nodes.at ≡ false
        → RowsFault nodes.rows arcs.rows (rows_in (part Attributes lines)) fault
        → FirstFault lines fault
    rows_first fault behind rows = rw (nodes_is, arcs_is, behind) rows

-- ---- the first fault of the rows of three sections, as they are read

module _ (nodes arcs attributes : List Line) where
  abbrev pub parts_fault : Option LgfFault
  parts_fault =
      rows_fault (some_readings nodes).0 (some_readings arcs).0 (some_readings attributes).0

  -- It is that of the rows, and that of the rows is it.
  pub told : (fault : LgfFault) → RowsFault nodes arcs attributes fault → parts_fault ≡ Some fault
  told fault bad = rw (
    readings_one nodes _ bad.node_readings (some_readings nodes).1 bad.nodes_are,
    readings_one arcs _ bad.arc_readings (some_readings arcs).1 bad.arcs_are,
    readings_one attributes _ bad.attribute_readings (some_readings attributes).1
        bad.attributes_are,
  ) bad.fault_is

  pub tells : (fault : LgfFault) → parts_fault ≡ Some fault → RowsFault nodes arcs attributes fault
  tells fault is = record {
    node_readings = (some_readings nodes).0;
    arc_readings = (some_readings arcs).0;
    attribute_readings = (some_readings attributes).0;
    nodes_are = (some_readings nodes).1;
    arcs_are = (some_readings arcs).1;
    attributes_are = (some_readings attributes).1;
    fault_is = is;
  }

-- A file has one first fault at most, by its sections.
one_by : (end : ℕ) (nodes arcs : Option Part) (attributes : List Line) (one other : LgfFault)
    → FaultBy end nodes arcs attributes one → FaultBy end nodes arcs attributes other → one ≡ other
one_by end None arcs attributes one other is other_is = is ∙ sym other_is
one_by end (Some nodes) None attributes one other is other_is = is ∙ sym other_is
one_by end (Some nodes) (Some arcs) attributes one other by other_by = ⊎_elim
    (λ (before : nat_lt arcs.at nodes.at ≡ true).
    let first : LgfFault = record { line = arcs.at; kind = ArcsFirst } in
    let is : one ≡ first = rw before at by in
    let other_is : other ≡ first = rw before at other_by in
    is ∙ sym other_is)
    (λ (behind : nat_lt arcs.at nodes.at ≡ false).
    let both : ◌≡◌ {A = Option LgfFault} (Some one) (Some other) =
    sym (told nodes.rows arcs.rows attributes one (rw behind at by))
    ∙ told nodes.rows arcs.rows attributes other (rw behind at other_by) in
    cc)
    (cases_Bool (nat_lt arcs.at nodes.at))

-- Bytes have one first fault at most.
pub one_fault : (bytes : List ℕ) (one other : LgfFault) → HasFault bytes one → HasFault bytes other
    → one ≡ other
one_fault bytes one other faulted other_faulted =
    let lines = lines_of bytes in
    one_by (length lines + 1) (part Nodes lines) (part Arcs lines)
    (rows_in (part Attributes lines)) one other faulted other_faulted

-- ---- bytes that spell a document have no fault

-- The lines of nodes have no fault, and these are their labels.
pub nodes_fine_in : (lines : List Line) (table : Table) (readings : List Reading) → IsTable table
    → NodesSpell lines table → AreRead lines readings
    → (first_bad node_fault [] readings ≡ None)
    × (labels_read (rows_read readings) ≡ node_labels table)
nodes_fine_in [] table [] right spells are = (refl, sym (ap (labels_of table.columns) spells.1))
nodes_fine_in [] table (reading ∷ readings) right spells are = absurd are
nodes_fine_in (line ∷ lines) table readings right spells are =
    let read = read_as (line ∷ lines) (table.columns ∷ table.rows) readings spells are in
    (read.fine node_fault [] (nodes_fine table right), ap labels_read read.rows_are)

-- The lines of arcs have no fault.
pub arcs_fine_in : (lines : List Line) (labels columns : Cells) (arcs : List Link)
    (readings : List Reading) → AreArcs labels columns arcs → ArcsSpell lines labels columns arcs
    → AreRead lines readings → first_bad (arc_fault labels) [] readings ≡ None
arcs_fine_in [] labels columns arcs [] right spells are = refl
arcs_fine_in [] labels columns arcs (reading ∷ readings) right spells are = absurd are
arcs_fine_in (line ∷ lines) labels columns arcs readings right spells are =
    let read = read_as (line ∷ lines) (arc_rows labels columns arcs) readings spells are in
    read.fine (arc_fault labels) [] (arcs_fine labels columns arcs right)

-- The lines of attributes have no fault.
pub attributes_fine_in : (lines : List Line) (attributes : List (List ℕ × List ℕ))
    (readings : List Reading) → AreAttributes attributes → AttributesSpell lines attributes
    → AreRead lines readings → first_bad attribute_fault [] readings ≡ None
attributes_fine_in lines attributes readings right spells are =
    let read = read_as lines (map attribute_cells attributes) readings spells are in
    read.fine attribute_fault [] (attributes_fine attributes right)

-- Bytes that have a fault spell no document.
pub fault_spells_none : (bytes : List ℕ) (fault : LgfFault) (doc : Doc) → HasFault bytes fault
    → Spells bytes doc → ⊥
fault_spells_none bytes fault doc faulted spells =
    let valid = spells.valid in
    let attributes = rows_in (part Attributes (lines_of bytes)) in
    let behind = le-ltb spells.arc_part.at spells.node_part.at (omega (arith, spells.in_order)) in
    let bad : RowsFault spells.node_part.rows spells.arc_part.rows attributes fault =
    rw (spells.arc_part_is, spells.node_part_is, behind) at faulted in
    let own =
    nodes_fine_in _ doc.nodes _ valid.nodes_ok spells.nodes_are bad.nodes_are in
    let links =
    arcs_fine_in _ _ doc.arc_columns doc.arcs _ valid.arcs_ok spells.arcs_are bad.arcs_are in
    let pairs = attributes_fine_in attributes doc.attributes _ valid.attributes_ok
    spells.attributes_are bad.attributes_are in
    let none : rows_fault bad.node_readings bad.arc_readings bad.attribute_readings ≡ None =
    rw (own.0, own.1, links, pairs) refl in
    absurd (cc (sym bad.fault_is ∙ none))
