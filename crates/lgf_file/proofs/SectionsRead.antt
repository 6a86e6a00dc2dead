-- What the sections of a file say is what the file says.
use Rattle.std.proofs.Common.{◌≡◌, ℕ, cond, List, [], refl, sym, ap, ◌∙◌, Some, Option, ◌<◌, ◌≤◌}
use Rattle.std.proofs.Common.{None, Ok, Err, Result, subst, arith}
use Rattle.std.specs.Prelude.{nat_lt, IfOk, IfErr, option_map}
use Rattle.std.specs.Option.{option_map_or}
use Rattle.std.proofs.lemmas.Bool.{le-ltb}
use Rattle.token_text.specs.Lines.{lines_of}
use Rattle.lgf_file.specs.Sections.{Line, Part, part, rows_in}
use Rattle.lgf_file.specs.Rows.{Cells}
use Rattle.lgf_file.specs.Documents.{node_labels, IsTable, AreArcs, AreAttributes, NodesSpell}
use Rattle.lgf_file.specs.Documents.{ArcsSpell, AttributesSpell, Spells, IsDoc}
use Rattle.lgf_file.specs.Faults.{earlier, RowsFault, node_fault, arc_fault, attribute_fault}
use Rattle.lgf_file.specs.Reading.{Finds, Blames, GraphBlames, PartsBlame, PartsSpell, rows_at}
use Rattle.lgf_file.specs.Found.{section_at}
use Rattle.lgf_file.specs.Laws.{HasFault}
use Rattle.lgf_file.specs.Results.{Answers, Names, Refuses}
use Rattle.lgf_file.specs.declared.documents.Table.{Table}
use Rattle.lgf_file.specs.declared.documents.Link.{Link}
use Rattle.lgf_file.specs.declared.faults.LgfFault.{LgfFault}
use Rattle.lgf_file.specs.declared.faults.DocFault.{DocFault}
use Rattle.lgf_file.specs.declared.faults.DocFault.TheVariants.{Lgf, Memory}
use Rattle.lgf_file.specs.declared.documents.Doc.{Doc}
use Rattle.lgf_file.specs.declared.sections.Begun.{Begun}
use Rattle.lgf_file.specs.declared.sections.Section.TheVariants.{Nodes, Arcs, Attributes}
use Rattle.lgf_file.proofs.Readings.{some_readings}
use Rattle.lgf_file.proofs.FirstFaults.{nodes_fine_in, arcs_fine_in, attributes_fine_in}
use Rattle.lgf_file.proofs.FirstFaults.{fault_spells_none, one_fault, rows_first, tells}
use Rattle.lgf_file.proofs.NodeTables.{nodes_one}
use Rattle.lgf_file.proofs.LinkLists.{arcs_one}
use Rattle.lgf_file.proofs.AttributeLists.{attributes_one}
use Rattle.lgf_file.proofs.SectionPlaces.{ats_differ}

-- ---- the first fault of the three sections of a file

-- The first fault is one of the nodes.
pub nodes_blamed : (nodes arcs : List Line) (fault : DocFault) → Blames node_fault nodes fault
    → GraphBlames nodes arcs fault
nodes_blamed nodes arcs Memory bad = tt
nodes_blamed nodes arcs (Lgf told) bad = λ first second nodes_are arcs_are.
    rw (bad first nodes_are) refl

-- The nodes are in order, and the first fault is one of the arcs between nodes with their labels.
pub arcs_blamed : (nodes arcs : List Line) (table : Table) (labels : Cells) (fault : DocFault)
    → IsTable table → NodesSpell nodes table → labels ≡ node_labels table
    → Blames (arc_fault labels) arcs fault → GraphBlames nodes arcs fault
arcs_blamed nodes arcs table labels Memory right spells labels_are bad = tt
arcs_blamed nodes arcs table labels (Lgf told) right spells labels_are bad =
    λ first second nodes_are arcs_are.
    let own = nodes_fine_in nodes table first right spells nodes_are in
    rw (own.0, own.1 ∙ sym labels_are) (bad second arcs_are)

-- The nodes and the arcs are in order, and the first fault is one of the attributes.
pub attributes_blamed : (nodes arcs attributes : List Line) (table : Table) (columns : Cells)
    (links : List Link) (fault : DocFault) → IsTable table → NodesSpell nodes table
    → AreArcs (node_labels table) columns links → ArcsSpell arcs (node_labels table) columns links
    → Blames attribute_fault attributes fault → PartsBlame nodes arcs attributes fault
attributes_blamed nodes arcs attributes table columns links Memory right spells arcs_right
    arcs_spell bad = tt
attributes_blamed nodes arcs attributes table columns links (Lgf told) right spells arcs_right
    arcs_spell bad = λ first second third nodes_are arcs_are attributes_are.
    let own = nodes_fine_in nodes table first right spells nodes_are in
    let none = arcs_fine_in arcs (node_labels table) columns links second arcs_right arcs_spell
    arcs_are in
    rw (own.0, own.1, none) (bad third attributes_are)

module _ (nodes arcs attributes : List Line) (told : LgfFault)
    (bad : GraphBlames nodes arcs (Lgf told)) where
  -- The attributes are in order, and the first fault is one of the others.
  pub graph_blamed : (pairs : List (List ℕ × List ℕ)) → AreAttributes pairs
      → AttributesSpell attributes pairs → PartsBlame nodes arcs attributes (Lgf told)
  graph_blamed pairs right spells = λ first second third nodes_are arcs_are attributes_are i.
      earlier (bad first second nodes_are arcs_are i)
      (attributes_fine_in attributes pairs third right spells attributes_are i)

  -- Of two faults the first one.
  pub both_blamed : (other : LgfFault) → Finds attribute_fault attributes (Some other)
      → PartsBlame nodes arcs attributes (Lgf (cond (nat_lt other.line told.line) other told))
  both_blamed other other_bad = λ first second third nodes_are arcs_are attributes_are i.
      earlier (bad first second nodes_are arcs_are i) (other_bad third attributes_are i)

-- ---- bytes spell one document alone

-- Bytes spell one document at most.
pub one_document : (bytes : List ℕ) (one other : Doc) → Spells bytes one → Spells bytes other
    → one ≡ other
one_document bytes one other spells other_spells =
    let found : ◌≡◌ {A = Option Part} (Some spells.node_part) (Some other_spells.node_part) =
    sym spells.node_part_is ∙ other_spells.node_part_is in
    let node_parts : spells.node_part ≡ other_spells.node_part = cc in
    let other_found : ◌≡◌ {A = Option Part} (Some spells.arc_part) (Some other_spells.arc_part) =
    sym spells.arc_part_is ∙ other_spells.arc_part_is in
    let arc_parts : spells.arc_part ≡ other_spells.arc_part = cc in
    let nodes = nodes_one other_spells.node_part.rows one.nodes other.nodes
    (rw node_parts at spells.nodes_are) other_spells.nodes_are in
    let arcs = arcs_one other_spells.arc_part.rows (node_labels other.nodes) one.arc_columns
    other.arc_columns one.arcs other.arcs other_spells.valid.nodes_ok.labels_differ
    (rw nodes at spells.valid.arcs_ok) other_spells.valid.arcs_ok
    (rw (arc_parts, nodes) at spells.arcs_are) other_spells.arcs_are in
    let attributes = attributes_one _ one.attributes other.attributes spells.attributes_are
    other_spells.attributes_are in
    λ i. record {
      nodes = nodes i;
      arc_columns = arcs.0 i;
      arcs = arcs.1 i;
      attributes = attributes i;
    }

-- ---- what the three sections of a file say is what the file says

-- The rows of a section that was found, or none.
pub rows_found : (found : Option Begun) (own : Option Part)
    → own ≡ option_map (λ (b : Begun). section_at b.at b.rest.now) found
    → rows_in own ≡ option_map_or (λ (b : Begun). rows_at b.at b.rest.now) found []
rows_found None own is = ap rows_in is
rows_found (Some begun) own is = ap rows_in is

-- Bytes that have this fault spell nothing else.
pub refused : (bytes : List ℕ) (fault : LgfFault) → HasFault bytes fault → Refuses bytes (Lgf fault)
refused bytes fault has = (has, λ doc spells. fault_spells_none bytes fault doc has spells)

module _ (bytes : List ℕ) (nodes arcs : Part) (attributes : List Line)
    (nodes_is : part Nodes (lines_of bytes) ≡ Some nodes)
    (arcs_is : part Arcs (lines_of bytes) ≡ Some arcs)
    (attributes_is : rows_in (part Attributes (lines_of bytes)) ≡ attributes)
    (order : nodes.at ≤ arcs.at) where
  -- The nodes stand first.
  first : nodes.at < arcs.at
  first = omega (arith, ats_differ (lines_of bytes) nodes arcs nodes_is arcs_is)

  -- The document of the three sections is that of the file.
  pub spelled : (result : Result Doc DocFault)
      → IfOk result (PartsSpell nodes.rows arcs.rows attributes)
      → IfOk result IsDoc → IfOk result (Spells bytes)
  spelled (Ok doc) spells valid = record {
    valid = valid;
    node_part = nodes;
    arc_part = arcs;
    node_part_is = nodes_is;
    arc_part_is = arcs_is;
    in_order = first;
    nodes_are = spells.nodes_are;
    arcs_are = spells.arcs_are;
    attributes_are =
        subst (λ own. AttributesSpell own doc.attributes) (sym attributes_is) spells.attributes_are;
  }
  spelled (Err fault) spells valid = tt

  -- The first fault of the three sections is that of the file.
  pub blamed : (result : Result Doc DocFault)
      → IfErr result (PartsBlame nodes.rows arcs.rows attributes) → IfErr result (Refuses bytes)
  blamed (Ok doc) blames = tt
  blamed (Err Memory) blames = tt
  blamed (Err (Lgf fault)) blames =
      let behind = le-ltb arcs.at nodes.at order in
      let rows = tells nodes.rows arcs.rows attributes fault
      (blames _ _ _ (some_readings nodes.rows).1 (some_readings arcs.rows).1
      (some_readings attributes).1) in
      refused bytes fault (rows_first (lines_of bytes) nodes arcs nodes_is arcs_is fault behind
      (subst (λ own. RowsFault nodes.rows arcs.rows own fault) (sym attributes_is) rows))

-- The document that is spelled is what is answered.
pub exact : (bytes : List ℕ) (result : Result Doc DocFault) → IfOk result (Spells bytes)
    → IfErr result (Refuses bytes) → (doc : Doc) → Spells bytes doc → Answers doc result
exact bytes (Ok found) right wrong doc spells = one_document bytes found doc right spells
exact bytes (Err Memory) right wrong doc spells = tt
exact bytes (Err (Lgf fault)) right wrong doc spells = wrong.1 doc spells

-- The first fault is what is answered.
pub exact_fault : (bytes : List ℕ) (result : Result Doc DocFault) → IfOk result (Spells bytes)
    → IfErr result (Refuses bytes) → (fault : LgfFault) → HasFault bytes fault → Names fault result
exact_fault bytes (Ok found) right wrong fault has = fault_spells_none bytes fault found has right
exact_fault bytes (Err Memory) right wrong fault has = tt
exact_fault bytes (Err (Lgf found)) right wrong fault has = one_fault bytes found fault wrong.0 has
