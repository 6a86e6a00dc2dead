-- That steps, runs and outcomes are one, where a choice is picked for each query.
use Rattle.std.specs.Prelude.{◌≡◌, ℕ, false, List, [], ◌∷◌, length}
use Rattle.edge_io.specs.Files.{Files}
use Rattle.script_words.specs.declared.commands.Command.{Command}
use Rattle.script_words.specs.declared.commands.GuardWord.{GuardWord}
use Rattle.script_words.specs.Lines.{Says}
use Rattle.plain_world.specs.declared.answers.Answer.{Answer}
use Rattle.plain_world.specs.Laws.{chooses}
use Rattle.plain_world.specs.World.{World}
use Rattle.plain_machine.specs.declared.statuses.Status.{Status}
use Rattle.plain_machine.specs.Built.{Answers}
use Rattle.plain_machine.specs.Chosen.{Pick, StepBy, PickedAnswers}
use Rattle.plain_machine.specs.Runs.{Run, StoppedAt}
use Rattle.plain_machine.specs.Outcome.{Left, OutcomeBy, IsWhole}

-- A command has one answer and leaves one world, by what is picked.
abbrev pub StepsAreOne : Type 0
StepsAreOne = (pick : Pick) (world later after : World) (command : Command) (answer other : Answer)
    → StepBy pick world command answer later → StepBy pick world command other after
    → (answer ≡ other) × (later ≡ after)

-- The line says no command that leaves a choice.
abbrev pub IsSure : List ℕ → Type 0
IsSure line = (command : Command) → Says line command → chooses command ≡ false

-- Each of some lines does so.
abbrev pub AreSure : List (List ℕ) → Type 0
AreSure [] = Unit {0}
AreSure (line ∷ lines) = IsSure line × AreSure lines

-- A sure line has its answer by whatever is picked.
abbrev pub NothingIsPicked : Type 0
NothingIsPicked = (pick : Pick) (world later : World) (line : List ℕ) (answer : Answer)
    → IsSure line → Answers world line answer later → PickedAnswers pick world line answer later

-- Sure lines have one list of answers, and lead to one world.
abbrev pub SureRunsAreOne : Type 0
SureRunsAreOne = (world later after : World) (number : ℕ) (lines : List (List ℕ))
    (said also : List (ℕ × Answer)) → AreSure lines → Run Answers world number lines said later
    → Run Answers world number lines also after → (said ≡ also) × (later ≡ after)

-- Runs of the same sure lines that end early at the same line had the same answers before it, and
-- came to the same world and files.
abbrev pub SureStopsAreOne : Type 0
SureStopsAreOne = (world : World) (files : Files) (lines : List (List ℕ))
    (part out part_b out_b : List ℕ) → AreSure lines
    → (one : StoppedAt Answers world files lines part out)
    (other : StoppedAt Answers world files lines part_b out_b)
    → length one.before ≡ length other.before
    → (one.answers ≡ other.answers) × (one.mid ≡ other.mid) × (one.kept ≡ other.kept)

-- ---- on a machine whose lines have these answers

module _ (answers : World → List ℕ → Answer → World → Type 0) where
  -- Lines have one list of answers, and lead to one world.
  abbrev pub RunsAreOne : Type 0
  RunsAreOne = (world later after : World) (number : ℕ) (lines : List (List ℕ))
      (said also : List (ℕ × Answer)) → Run answers world number lines said later
      → Run answers world number lines also after → (said ≡ also) × (later ≡ after)

  -- Runs of the same lines that end early at the same line had the same answers before it, and came
  -- to the same world and files.
  abbrev pub StopsAreOne : Type 0
  StopsAreOne = (world : World) (files : Files) (lines : List (List ℕ))
      (part out part_b out_b : List ℕ) (one : StoppedAt answers world files lines part out)
      (other : StoppedAt answers world files lines part_b out_b)
      → length one.before ≡ length other.before
      → (one.answers ≡ other.answers) × (one.mid ≡ other.mid) × (one.kept ≡ other.kept)

  -- Words, boxes and files come to one status, report, files and world handed back, but for the
  -- early ends.
  abbrev pub OutcomesAreOne : Type 0
  OutcomesAreOne = (words : List (List ℕ)) (pool : List GuardWord) (files : Files)
      (left other : Left) (status next : Status) → IsWhole status → IsWhole next
      → OutcomeBy answers words pool files left status
      → OutcomeBy answers words pool files other next
      → (status ≡ next) × (left.out ≡ other.out) × (left.files ≡ other.files)
      × (left.handed ≡ other.handed)
