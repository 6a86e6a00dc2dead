-- The outcome: what words, boxes and files come to, by cases on the status.
use Rattle.std.specs.Prelude.{◌≡◌, ◌⊎◌, ℕ, Bool, true, false, List, [], take}
use Rattle.edge_io.specs.Causes.{Rose}
use Rattle.edge_io.specs.Files.{Files, HoldsWithin}
use Rattle.token_text.specs.Lines.{lines_of}
use Rattle.lgf_file.specs.Plain.{plain}
use Rattle.lgf_file.specs.declared.documents.Doc.{Doc}
use Rattle.lgf_file.specs.declared.faults.LgfFault.{LgfFault}
use Rattle.script_words.specs.declared.commands.GuardWord.{GuardWord}
use Rattle.plain_world.specs.declared.answers.Answer.{Answer}
use Rattle.plain_world.specs.World.{World}
use Rattle.plain_world.specs.Documents.{load}
use Rattle.plain_machine.specs.declared.limits.TheConstants.{SCRIPT_LIMIT}
use Rattle.plain_machine.specs.declared.statuses.Status.{Status}
use Rattle.plain_machine.specs.declared.statuses.Status.TheVariants as statuses
use Rattle.plain_machine.specs.Built.{Answers}
use Rattle.plain_machine.specs.Texts.{graph_fault_text}
use Rattle.plain_machine.specs.Runs as runs
use Rattle.plain_machine.specs.Generator.{made}
use Rattle.plain_machine.specs.Drill.{Drilled}
use Rattle.plain_machine.specs.Words.{Shape, RunOn, MakeOf, DrillOf, Asks, AskNothing, usage}
use Rattle.plain_machine.specs.Inputs.{HasGraph, HasBadGraph, HasTooLong}

-- ---- what a call of the program leaves

-- The first bytes of the text, some number of them.
abbrev pub IsPrefixOf : List ℕ → List ℕ → Type 0
IsPrefixOf out text = (count : ℕ) × (out ≡ take count text)

-- How often calls of the outside have failed: writes to the report, and stores to each file.
pub record Counts : Type 0 where
  pub writes : ℕ
  pub stores : List ℕ → ℕ

-- The world that is handed back, if any.
pub data Handed : Type 0 where
  Nothing : Handed
  Desk : World → Handed

-- The bytes that the report took, the files, the world handed back, and the counts before and then.
pub record Left : Type 0 where
  pub out : List ℕ
  pub files : Files
  pub handed : Handed
  pub before : Counts
  pub now : Counts

-- A write to the report failed.
abbrev pub WriteRose : Left → Type 0
WriteRose left = Rose left.before.writes left.now.writes

-- A store to this file failed.
abbrev pub StoreRose : Left → List ℕ → Type 0
StoreRose left name = Rose (left.before.stores name) (left.now.stores name)

-- Nothing went out, and no file was stored.
abbrev pub LeavesNothing : Files → Left → Type 0
LeavesNothing files left = (left.out ≡ []) × (left.files ≡ files)

-- This text went out, and no file was stored.
abbrev pub LeavesText : Files → List ℕ → Left → Type 0
LeavesText files text left = (left.out ≡ text) × (left.files ≡ files)

-- A prefix of this text went out before a write failed, and no file was stored.
abbrev pub LeavesPrefix : Files → List ℕ → Left → Type 0
LeavesPrefix files text left =
    IsPrefixOf left.out text × (left.files ≡ files) × WriteRose left

-- ---- runs

-- A machine: how a world answers a line, the world of a document and some boxes, and how it is
-- handed back.
module _ {W : Type 0} (Answers : W → List ℕ → Answer → W → Type 0)
    (load : Doc → List GuardWord → W) (hand : W → Handed) where
  -- All lines were answered, and the last world is handed back.
  abbrev pub PlaysWhole : W → Files → List (List ℕ) → Left → Bool → Type 0
  PlaysWhole world files lines left refused =
      (last : W) × runs.Finished Answers world files lines refused last left.out left.files
      × (left.handed ≡ hand last)

  -- From this world and these files the lines leave this and come to this status.
  abbrev pub Plays : W → Files → List (List ℕ) → Left → Status → Type 0
  Plays world files lines left statuses.Done = PlaysWhole world files lines left false
  Plays world files lines left statuses.SomeRefused = PlaysWhole world files lines left true
  Plays world files lines left statuses.Usage = ⊥
  Plays world files lines left statuses.BadGraph = ⊥
  Plays world files lines left statuses.ReadFault = ⊥
  Plays world files lines left statuses.WriteFault =
      (runs.StoppedWithin Answers world files lines left.out left.files × WriteRose left)
      ⊎ ((name : List ℕ)
      × runs.StoppedStoring Answers world files lines name left.out left.files
      × StoreRose left name)
  Plays world files lines left statuses.Memory =
      runs.StoppedBefore Answers world files lines left.out left.files
  Plays world files lines left statuses.TooLong = ⊥

  -- Both files are as they should be, and the script is played on the graph.
  abbrev pub PlaysFiles : List GuardWord → Files → List ℕ → List ℕ → Left → Status → Type 0
  PlaysFiles pool files graph script left status =
      (doc : Doc) × (text : List ℕ) × HasGraph files graph doc
      × HoldsWithin files script SCRIPT_LIMIT text
      × Plays (load doc pool) files (lines_of text) left status

  -- A run on these two files, with these boxes.
  abbrev pub EndsRun : List GuardWord → Files → List ℕ → List ℕ → Left → Status → Type 0
  EndsRun pool files graph script left statuses.Done =
      PlaysFiles pool files graph script left statuses.Done
  EndsRun pool files graph script left statuses.SomeRefused =
      PlaysFiles pool files graph script left statuses.SomeRefused
  EndsRun pool files graph script left statuses.Usage = ⊥
  EndsRun pool files graph script left statuses.BadGraph =
      (fault : LgfFault) × HasBadGraph files graph fault
      × LeavesText files (graph_fault_text fault) left
  EndsRun pool files graph script left statuses.ReadFault = LeavesNothing files left
  EndsRun pool files graph script left statuses.WriteFault =
      ((fault : LgfFault) × HasBadGraph files graph fault
      × LeavesPrefix files (graph_fault_text fault) left)
      ⊎ PlaysFiles pool files graph script left statuses.WriteFault
  EndsRun pool files graph script left statuses.Memory =
      LeavesNothing files left ⊎ PlaysFiles pool files graph script left statuses.Memory
  EndsRun pool files graph script left statuses.TooLong =
      LeavesNothing files left × HasTooLong files graph script

-- Words of no shape: the line on how to use the program went out, or a prefix of it before a write
-- failed; the numbers are the counts of failed writes.
abbrev pub EndsUsage : List ℕ → ℕ → ℕ → Status → Type 0
EndsUsage out before now statuses.Usage = out ≡ usage
EndsUsage out before now statuses.WriteFault = IsPrefixOf out usage × Rose before now
EndsUsage out before now _ = ⊥

-- A text that goes out as it is made: all of it, or a prefix of it before a write failed or memory
-- ran out; the numbers are the counts of failed writes.
abbrev pub EndsText : (text out : List ℕ) (before now : ℕ) → Status → Type 0
EndsText text out before now statuses.Done = out ≡ text
EndsText text out before now statuses.WriteFault = IsPrefixOf out text × Rose before now
EndsText text out before now statuses.Memory = IsPrefixOf out text
EndsText text out before now _ = ⊥

-- A drill: its text went out, and the last world is handed back; or a prefix of the text before a
-- write failed, or nothing where memory ran out. The numbers are the counts of failed writes.
abbrev pub EndsDrill : (World → List ℕ → Answer → World → Type 0) → List GuardWord
    → (seed lines : ℕ) (out : List ℕ) (handed : Handed) (before now : ℕ) → Status → Type 0
EndsDrill answers pool seed lines out handed before now statuses.Done =
    (last : World) × Drilled answers pool seed lines last out × (handed ≡ Desk last)
EndsDrill answers pool seed lines out handed before now statuses.WriteFault =
    (last : World) × (text : List ℕ) × Drilled answers pool seed lines last text
    × IsPrefixOf out text × Rose before now
EndsDrill answers pool seed lines out handed before now statuses.Memory = out ≡ []
EndsDrill answers pool seed lines out handed before now _ = ⊥

-- ---- the outcome

-- No world is handed back where not all lines were answered.
abbrev pub HandsBackAtEnd : Status → Handed → Type 0
HandsBackAtEnd statuses.Done handed = Unit {0}
HandsBackAtEnd statuses.SomeRefused handed = Unit {0}
HandsBackAtEnd _ handed = handed ≡ Nothing

-- What a shape comes to where lines have these answers.
abbrev pub Ends : (World → List ℕ → Answer → World → Type 0)
    → List GuardWord → Files → Shape → Left → Status → Type 0
Ends answers pool files (RunOn graph script) left status =
    EndsRun answers load Desk pool files graph script left status
Ends answers pool files (MakeOf seed nodes arcs) left status =
    EndsText (plain (made seed nodes arcs)) left.out left.before.writes left.now.writes status
    × (left.files ≡ files) × (left.handed ≡ Nothing)
Ends answers pool files (DrillOf seed lines) left status =
    EndsDrill answers pool seed lines left.out left.handed left.before.writes left.now.writes
    status × (left.files ≡ files)

-- What words, boxes and files come to where lines have these answers: what is left, and the status.
abbrev pub OutcomeBy : (World → List ℕ → Answer → World → Type 0)
    → List (List ℕ) → List GuardWord → Files → Left → Status → Type 0
OutcomeBy answers words pool files left status =
    ((AskNothing words × EndsUsage left.out left.before.writes left.now.writes status
    × (left.files ≡ files))
    ⊎ ((shape : Shape) × Asks words shape × Ends answers pool files shape left status))
    × HandsBackAtEnd status left.handed

-- What these words, boxes and files come to: what is left, and the status.
abbrev pub Outcome : List (List ℕ) → List GuardWord → Files → Left → Status → Type 0
Outcome = OutcomeBy Answers

-- ---- ends

-- All lines were answered, or memory ran out.
abbrev pub IsAnswered : Status → Type 0
IsAnswered statuses.Done = Unit {0}
IsAnswered statuses.SomeRefused = Unit {0}
IsAnswered statuses.Memory = Unit {0}
IsAnswered _ = ⊥

-- A call of the outside failed, or memory ran out.
abbrev pub EndsEarly : Status → Type 0
EndsEarly statuses.ReadFault = Unit {0}
EndsEarly statuses.WriteFault = Unit {0}
EndsEarly statuses.Memory = Unit {0}
EndsEarly _ = ⊥

-- Neither of these.
abbrev pub IsWhole : Status → Type 0
IsWhole statuses.Done = Unit {0}
IsWhole statuses.SomeRefused = Unit {0}
IsWhole statuses.Usage = Unit {0}
IsWhole statuses.BadGraph = Unit {0}
IsWhole statuses.TooLong = Unit {0}
IsWhole _ = ⊥
