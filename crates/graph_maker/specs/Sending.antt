-- What goes out, and what is held back.
use Rattle.std.specs.Prelude.{◌≡◌, ℕ, List, ◌++◌, Option}
use Rattle.edge_io.specs.Causes.{Rose}
use Rattle.edge_io.specs.Files.{Took}
use Rattle.plain_machine.specs.declared.statuses.Status.{Status}
use Rattle.plain_machine.specs.declared.statuses.Status.TheVariants as statuses

-- The text went to the end of what was held; some of it went out, and the rest is held.
pub record Sends (old new : Option (List ℕ)) (held rest text : List ℕ) : Type 0 where
  pub sent : List ℕ
  pub took : Took old new sent
  pub whole : sent ++ rest ≡ held ++ text

-- A write failed, or memory ran out.
abbrev pub StopsBy : Status → ℕ → ℕ → Type 0
StopsBy statuses.WriteFault before now = Rose before now
StopsBy statuses.Memory before now = now ≡ before
StopsBy _ before now = ⊥

-- The front of a text went out, and then it ended for this reason.
pub record Stops (old new : Option (List ℕ)) (text : List ℕ) (before now : ℕ) (status : Status)
    : Type 0 where
  pub sent : List ℕ
  pub rest : List ℕ
  pub took : Took old new sent
  pub whole : text ≡ sent ++ rest
  pub cause : StopsBy status before now
