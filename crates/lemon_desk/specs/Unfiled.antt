-- What words come to that name no files.
use Rattle.std.specs.Prelude.{◌≡◌, ◌⊎◌, ℕ, List}
use Rattle.lgf_file.specs.Plain.{plain}
use Rattle.script_words.specs.declared.commands.GuardWord.{GuardWord}
use Rattle.plain_machine.specs.declared.statuses.Status.{Status}
use Rattle.plain_machine.specs.Built.{Answers}
use Rattle.plain_machine.specs.Generator.{made}
use Rattle.plain_machine.specs.Words.{AsksGraph, AsksDrill, AskNothing}
use Rattle.plain_machine.specs.Outcome.{Handed, Nothing, EndsText, EndsUsage, EndsDrill}

-- They ask for a graph, whose text goes out.
pub record MakesGraph (words : List (List ℕ)) (out : List ℕ) (before now : ℕ) (status : Status)
    : Type 0 where
  pub seed : ℕ
  pub nodes : ℕ
  pub arcs : ℕ
  pub asks : AsksGraph words seed nodes arcs
  pub ends : EndsText (plain (made seed nodes arcs)) out before now status

-- Either they have no shape and the line on how to use the program goes out, or they ask for a
-- graph.
abbrev pub EndsWritten : (words : List (List ℕ)) (out : List ℕ) (before now : ℕ) → Status → Type 0
EndsWritten words out before now status =
    (AskNothing words × EndsUsage out before now status)
    ⊎ MakesGraph words out before now status

-- They ask for a drill, which is run with these boxes.
pub record RunsDrill (words : List (List ℕ)) (pool : List GuardWord) (out : List ℕ)
    (handed : Handed) (before now : ℕ) (status : Status) : Type 0 where
  pub seed : ℕ
  pub lines : ℕ
  pub asks : AsksDrill words seed lines
  pub ends : EndsDrill Answers pool seed lines out handed before now status

-- Either no world is handed back, or they ask for a drill.
abbrev pub EndsUnfiled : (words : List (List ℕ)) (pool : List GuardWord) (out : List ℕ)
    (handed : Handed) (before now : ℕ) → Status → Type 0
EndsUnfiled words pool out handed before now status =
    (EndsWritten words out before now status × (handed ≡ Nothing))
    ⊎ RunsDrill words pool out handed before now status
