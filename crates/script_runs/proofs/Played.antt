-- What a run on two files comes to, from what its parts come to.
use Rattle.std.proofs.Common.{◌≡◌, ◌≤◌, ℕ, List, inl, inr}
use Rattle.edge_io.specs.Causes.{NeverFall}
use Rattle.edge_io.specs.Files.{Files}
use Rattle.lgf_file.specs.declared.faults.LgfFault.{LgfFault}
use Rattle.plain_machine.specs.declared.statuses.Status.{Status}
use Rattle.plain_machine.specs.declared.statuses.Status.TheVariants as statuses
use Rattle.script_words.specs.declared.commands.GuardWord.{GuardWord}
use Rattle.plain_world.specs.World.{World}
use Rattle.plain_world.specs.Documents.{load}
use Rattle.plain_machine.specs.Built.{Answers}
use Rattle.plain_machine.specs.Inputs.{HasBadGraph}
use Rattle.plain_machine.specs.Outcome.{Counts, Left, Handed, Desk, Ends}
use Rattle.plain_machine.specs.Outcome as outcome
use Rattle.script_runs.specs.Refused.{RefusesGraph}
use Rattle.script_runs.proofs.Runs.{Plays, rose_since}

-- Both files are as they should be, and the script is played on the graph.
abbrev pub PlaysFiles : List GuardWord → Files → List ℕ → List ℕ → Left → Status → Type 0
PlaysFiles = outcome.PlaysFiles Answers load Desk

-- A run on these two files, with these boxes.
abbrev pub EndsRun : List GuardWord → Files → List ℕ → List ℕ → Left → Status → Type 0
EndsRun = outcome.EndsRun Answers load Desk

-- What a script was played to since its first line was played to since an earlier call.
pub plays_since : (world : World) (files : Files) (lines : List (List ℕ)) (left : Left)
    (first : Counts) (status : Status)
    → first.writes ≤ left.before.writes → NeverFall first.stores left.before.stores
    → Plays world files lines left status
    → Plays world files lines (record left { before = first }) status
plays_since world files lines left first statuses.Done writes stores h = h
plays_since world files lines left first statuses.SomeRefused writes stores h = h
plays_since world files lines left first statuses.Usage writes stores h = h
plays_since world files lines left first statuses.BadGraph writes stores h = h
plays_since world files lines left first statuses.ReadFault writes stores h = h
plays_since world files lines left first statuses.WriteFault writes stores (inl h) =
    inl (h.0, rose_since first.writes left.before.writes left.now.writes writes h.1)
plays_since world files lines left first statuses.WriteFault writes stores (inr h) =
    inr (
      h.0,
      h.1,
      rose_since (first.stores h.0) (left.before.stores h.0) (left.now.stores h.0)
          (stores h.0) h.2,
    )
plays_since world files lines left first statuses.Memory writes stores h = h
plays_since world files lines left first statuses.TooLong writes stores h = h

-- A script that was played on the graph of a file is a run on the two files.
pub played : (pool : List GuardWord) (files : Files) (graph script : List ℕ) (left : Left)
    (status : Status)
    → PlaysFiles pool files graph script left status
    → EndsRun pool files graph script left status
played pool files graph script left statuses.Done h = h
played pool files graph script left statuses.SomeRefused h = h
played pool files graph script left statuses.Usage h = absurd h.4
played pool files graph script left statuses.BadGraph h = absurd h.4
played pool files graph script left statuses.ReadFault h = absurd h.4
played pool files graph script left statuses.WriteFault h = inr h
played pool files graph script left statuses.Memory h = inr h
played pool files graph script left statuses.TooLong h = absurd h.4

-- So is one whose graph file was refused.
pub refused : (pool : List GuardWord) (files : Files) (graph script : List ℕ) (fault : LgfFault)
    (left : Left)
    (status : Status)
    → HasBadGraph files graph fault → left.files ≡ files
    → RefusesGraph fault left.out left.before.writes left.now.writes status
    → EndsRun pool files graph script left status
refused pool files graph script fault left statuses.Done bad same told = absurd told
refused pool files graph script fault left statuses.SomeRefused bad same told = absurd told
refused pool files graph script fault left statuses.Usage bad same told = absurd told
refused pool files graph script fault left statuses.BadGraph bad same told =
    (fault, bad, (told, same))
refused pool files graph script fault left statuses.ReadFault bad same told = absurd told
refused pool files graph script fault left statuses.WriteFault bad same told =
    inl (fault, bad, (told.0, same, told.1))
refused pool files graph script fault left statuses.Memory bad same told = inl (told, same)
refused pool files graph script fault left statuses.TooLong bad same told = absurd told
