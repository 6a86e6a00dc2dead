-- What a step answers, by what the command's own call answers.
use Rattle.std.proofs.Common.{◌≡◌, sym, subst, Result, Ok, Err}
use Rattle.std.specs.Prelude.{IfOk, IfErr}
use Rattle.script_words.specs.declared.commands.Command.{Command}
use Rattle.report_text.specs.declared.faults.StepFault.{StepFault}
use Rattle.report_text.specs.declared.replies.Reply.{Reply}
use Rattle.plain_world.specs.declared.answers.Answer.TheVariants.{Answered}
use Rattle.plain_world.specs.World.{World}
use Rattle.plain_world.specs.Steps.{Step}
use Rattle.plain_machine.specs.Built.{RefusedBy}
use Rattle.desk_world.specs.Faults.{Answers}

module _ (old new : World) (command asked : Command) (is : command ≡ asked) where
  pub answered_by : (result : Result Reply StepFault) → Answers old asked new result
      → IfOk result (λ reply. Step old command (Answered reply) new)
  answered_by (Ok reply) answers =
      subst (λ c. Step old c (Answered reply) new) (sym is) answers
  answered_by (Err fault) answers = tt

  pub refused_by : (result : Result Reply StepFault) → Answers old asked new result
      → IfErr result (RefusedBy old command new)
  refused_by (Ok reply) answers = tt
  refused_by (Err fault) answers = subst (λ c. RefusedBy old c new fault) (sym is) answers
