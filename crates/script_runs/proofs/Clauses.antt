-- What a run on two files comes to, by the names that the words tell.
use Rattle.std.proofs.Common.{◌≡◌, ℕ, List, Option}
use Rattle.std.specs.Prelude.{◌⊎◌}
use Rattle.edge_io.specs.Causes.{Rose}
use Rattle.edge_io.specs.Files.{Files, HoldsWithin}
use Rattle.token_text.specs.Lines.{lines_of}
use Rattle.lgf_file.specs.Documents.{Spells}
use Rattle.lgf_file.specs.declared.documents.Doc.{Doc}
use Rattle.script_words.specs.declared.commands.GuardWord.{GuardWord}
use Rattle.plain_machine.specs.declared.limits.TheConstants.{GRAPH_LIMIT, SCRIPT_LIMIT}
use Rattle.plain_machine.specs.declared.statuses.Status.{Status}
use Rattle.plain_machine.specs.declared.statuses.Status.TheVariants as statuses
use Rattle.plain_machine.specs.Words.{RunOn, Asks}
use Rattle.plain_machine.specs.Inputs.{HasGraph, HasTooLong, LacksNeeded, ReadRose, SavesTo}
use Rattle.plain_machine.specs.Outcome.{Left, WriteRose, StoreRose, IsAnswered, EndsEarly}
use Rattle.script_runs.proofs.Played.{EndsRun}
use Rattle.script_runs.proofs.Endings.{NothingDone, at_names, lacking, too_long, bad_graph}
use Rattle.script_runs.proofs.Endings.{complete}

module _ (words : List (List ℕ)) (first second graph script : List ℕ)
    (asks : Asks words (RunOn first second)) (also : Asks words (RunOn graph script))
    (pool : List GuardWord) (files : Files) (left : Left) (status : Status)
    (ran : EndsRun pool files first second left status) where
  -- the run, by the other names
  named : EndsRun pool files graph script left status
  named =
      at_names (λ g s. EndsRun pool files g s left status) words first second graph script asks
      also ran

  pub lacking_named : LacksNeeded files graph script → NothingDone files left status
  lacking_named lacks = lacking pool files graph script left status lacks named

  pub too_long_named : HasTooLong files graph script
      → (status ≡ statuses.TooLong) ⊎ EndsEarly status
  too_long_named long = too_long pool files graph script left status long named

  pub bad_graph_named : (bytes : List ℕ) → HoldsWithin files graph GRAPH_LIMIT bytes
      → ((doc : Doc) → Spells bytes doc → ⊥) → (status ≡ statuses.BadGraph) ⊎ EndsEarly status
  bad_graph_named bytes held none =
      bad_graph pool files graph script bytes held none left status named

  pub complete_named : (text : List ℕ) (doc : Doc) (told : Option Files) (before now : List ℕ → ℕ)
      → HasGraph files graph doc → HoldsWithin files script SCRIPT_LIMIT text
      → (status ≡ statuses.ReadFault → ReadRose told first second before now)
      → (Rose (before graph) (now graph) → ⊥) → (Rose (before script) (now script) → ⊥)
      → ((name : List ℕ) → SavesTo (lines_of text) name → StoreRose left name → ⊥)
      → (WriteRose left → ⊥) → IsAnswered status
  complete_named text doc told before now has held read one two stores writes =
      complete pool files graph script left status text doc told before now named has held
      (λ e. at_names (λ g s. ReadRose told g s before now) words first second graph script asks
      also (read e)) one two stores writes
