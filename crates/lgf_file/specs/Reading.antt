-- What is read of the rows of a section. No public clause cites this module.
use Rattle.std.specs.Prelude.{◌≡◌, ℕ, ◌+◌, List, [], ◌∷◌, ◌++◌, None, Some, Option, ⊤}
use Rattle.token_text.specs.Lines.{lines_of}
use Rattle.lgf_file.specs.Sections.{Line, rows_of}
use Rattle.lgf_file.specs.Rows.{Cells, Rows}
use Rattle.lgf_file.specs.Documents.{NodesSpell, ArcsSpell, AttributesSpell, node_labels}
use Rattle.lgf_file.specs.Faults.{Reading, AreRead, first_bad, graph_fault, rows_fault}
use Rattle.lgf_file.specs.declared.documents.Doc.{Doc}
use Rattle.lgf_file.specs.declared.faults.LgfFault.{LgfFault}
use Rattle.lgf_file.specs.declared.faults.LgfKind.{LgfKind}
use Rattle.lgf_file.specs.declared.faults.DocFault.{DocFault}
use Rattle.lgf_file.specs.declared.faults.DocFault.TheVariants.{Lgf, Memory}

-- No row is at fault behind those before it.
abbrev pub InOrder : (List Cells → Cells → Option LgfKind) → List Cells → List Cells → Type 0
InOrder fault before [] = Unit {0}
InOrder fault before (cells ∷ rows) =
    (fault before cells ≡ None) × InOrder fault (before ++ cells ∷ []) rows

-- Lines are rows with these tokens, which are in order behind others.
pub record AllRead (fault : List Cells → Cells → Option LgfKind) (before : List Cells)
    (lines : List Line) (rows : List Cells) : Type 0 where
  pub read_is : Rows lines rows
  pub fine : InOrder fault before rows

-- The lines of a section have this first fault, however they are read.
abbrev pub Finds : (List Cells → Cells → Option LgfKind) → List Line → Option LgfFault → Type 0
Finds fault lines found =
    (readings : List Reading) → AreRead lines readings → first_bad fault [] readings ≡ found

-- A fault of the file is the first one of the section.
abbrev pub Blames : (List Cells → Cells → Option LgfKind) → List Line → DocFault → Type 0
Blames fault lines (Lgf told) = Finds fault lines (Some told)
Blames fault lines Memory = ⊤

-- A fault of the file is the first one of the nodes and the arcs.
abbrev pub GraphBlames : List Line → List Line → DocFault → Type 0
GraphBlames nodes arcs (Lgf told) =
    (first second : List Reading) → AreRead nodes first → AreRead arcs second
    → graph_fault first second ≡ Some told
GraphBlames nodes arcs Memory = ⊤

-- A fault of the file is the first one of the three sections.
abbrev pub PartsBlame : List Line → List Line → List Line → DocFault → Type 0
PartsBlame nodes arcs attributes (Lgf told) =
    (first second third : List Reading) → AreRead nodes first → AreRead arcs second
    → AreRead attributes third → rows_fault first second third ≡ Some told
PartsBlame nodes arcs attributes Memory = ⊤

-- The rows of a section by the number of its first line and the bytes behind that line.
abbrev pub rows_at : ℕ → List ℕ → List Line
rows_at at rest = rows_of (at + 1) (lines_of rest)

-- The three sections spell the parts of the document.
pub record PartsSpell (nodes arcs attributes : List Line) (doc : Doc) : Type 0 where
  pub nodes_are : NodesSpell nodes doc.nodes
  pub arcs_are : ArcsSpell arcs (node_labels doc.nodes) doc.arc_columns doc.arcs
  pub attributes_are : AttributesSpell attributes doc.attributes
