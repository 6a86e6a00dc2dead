-- The two files of a run, and which of their bytes are needed.
use Rattle.std.specs.Prelude.{◌≡◌, ◌⊎◌, ℕ, List, Option, Some, Contains}
use Rattle.edge_io.specs.Causes.{Rose}
use Rattle.edge_io.specs.Files.{Files, HoldsWithin, Lacks, IsTooLong}
use Rattle.lgf_file.specs.Documents.{Spells}
use Rattle.lgf_file.specs.Laws.{HasFault}
use Rattle.lgf_file.specs.declared.documents.Doc.{Doc}
use Rattle.lgf_file.specs.declared.faults.LgfFault.{LgfFault}
use Rattle.script_words.specs.Lines.{Says}
use Rattle.script_words.specs.declared.commands.Command.TheVariants.{Save}
use Rattle.plain_machine.specs.declared.limits.TheConstants.{GRAPH_LIMIT, SCRIPT_LIMIT}

-- The graph file is within its limit and spells this document.
abbrev pub HasGraph : Files → List ℕ → Doc → Type 0
HasGraph files graph doc =
    (bytes : List ℕ) × HoldsWithin files graph GRAPH_LIMIT bytes × Spells bytes doc

-- It is within its limit and spells none, and this is its first fault.
abbrev pub HasBadGraph : Files → List ℕ → LgfFault → Type 0
HasBadGraph files graph fault =
    (bytes : List ℕ) × HoldsWithin files graph GRAPH_LIMIT bytes × HasFault bytes fault

-- The bytes of the script are needed: those of the graph file spell a document.
abbrev pub NeedsScript : Files → List ℕ → Type 0
NeedsScript files graph = (doc : Doc) × HasGraph files graph doc

-- A file whose bytes are needed is missing.
abbrev pub LacksNeeded : Files → List ℕ → List ℕ → Type 0
LacksNeeded files graph script =
    Lacks files graph ⊎ (NeedsScript files graph × Lacks files script)

-- A file whose bytes are needed has more than its limit.
abbrev pub HasTooLong : Files → List ℕ → List ℕ → Type 0
HasTooLong files graph script =
    IsTooLong files graph GRAPH_LIMIT
    ⊎ (NeedsScript files graph × IsTooLong files script SCRIPT_LIMIT)

-- The count of a file whose bytes are needed has risen.
abbrev pub ReadRose : Option Files → List ℕ → List ℕ → (List ℕ → ℕ) → (List ℕ → ℕ) → Type 0
ReadRose told graph script before now =
    Rose (before graph) (now graph)
    ⊎ (((files : Files) → told ≡ Some files → NeedsScript files graph)
    × Rose (before script) (now script))

-- A line saves to this file.
abbrev pub SavesTo : List (List ℕ) → List ℕ → Type 0
SavesTo lines name = (line : List ℕ) × Contains lines line × Says line (Save name)
