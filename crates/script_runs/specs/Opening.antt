-- What becomes of the two files of a run before the first line.
use Rattle.std.specs.Prelude.{◌≡◌, ℕ, List}
use Rattle.edge_io.specs.Files.{Files, HoldsWithin}
use Rattle.lgf_file.specs.declared.documents.Doc.{Doc}
use Rattle.script_words.specs.declared.commands.GuardWord.{GuardWord}
use Rattle.plain_world.specs.World.{World}
use Rattle.plain_world.specs.Documents.{load}
use Rattle.plain_machine.specs.declared.limits.TheConstants.{SCRIPT_LIMIT}
use Rattle.plain_machine.specs.declared.statuses.Status.{Status}
use Rattle.plain_machine.specs.declared.statuses.Status.TheVariants as statuses
use Rattle.plain_machine.specs.Inputs.{HasGraph}

-- Both files are as they should be, this is the text of the script, and the world is that of the
-- graph with these boxes.
abbrev pub Opens : Files → List ℕ → List ℕ → List GuardWord → World → List ℕ → Type 0
Opens files graph script pool world text =
    (doc : Doc) × HasGraph files graph doc × HoldsWithin files script SCRIPT_LIMIT text
    × (world ≡ load doc pool)

-- The run ends before its first line, and not as one whose words have no shape.
abbrev pub EndsUnopened : Status → Type 0
EndsUnopened statuses.Done = ⊥
EndsUnopened statuses.SomeRefused = ⊥
EndsUnopened statuses.Usage = ⊥
EndsUnopened _ = Unit {0}
