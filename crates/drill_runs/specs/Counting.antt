-- Lines that are answered and counted.
use Rattle.std.specs.Prelude.{◌≡◌, ℕ, ◌+◌, List}
use Rattle.plain_world.specs.declared.answers.Answer.{Answer}
use Rattle.plain_world.specs.World.{World}
use Rattle.plain_machine.specs.Built.{Answers}
use Rattle.plain_machine.specs.Runs.{Run}
use Rattle.plain_machine.specs.Drill.{accepted_in, refused_in}
use Rattle.drill_runs.specs.declared.counting.LineCounts.{LineCounts}

-- No line was counted.
abbrev pub no_counts : LineCounts
no_counts = record { accepted = 0; refused = 0 }

-- The lines from this number on were answered from the old world to the new one, and their answers
-- were counted.
pub record Counted (old new : World) (number : ℕ) (lines : List (List ℕ))
    (before now : LineCounts) : Type 0 where
  pub said : List (ℕ × Answer)
  pub ran : Run Answers old number lines said new
  pub accepted_is : now.accepted ≡ before.accepted + accepted_in said
  pub refused_is : now.refused ≡ before.refused + refused_in said
