-- A command that leaves no choice has one answer, and so has one that is refused.
use Rattle.std.proofs.Common.{◌≡◌, true, false, sym, ◌∙◌, ap, None, Some}
use Rattle.script_words.specs.declared.commands.Command.{Command}
use Rattle.script_words.specs.declared.commands.Command.TheVariants as commands
use Rattle.report_text.specs.declared.faults.Fault.{Fault}
use Rattle.report_text.specs.declared.replies.Reply.{Reply}
use Rattle.plain_world.specs.declared.answers.Answer.TheVariants.{Answered, Refused}
use Rattle.plain_world.specs.World.{World}
use Rattle.plain_world.specs.Effects as effects
use Rattle.plain_world.specs.Replies.{reply_of}
use Rattle.plain_world.specs.Steps.{Does}
use Rattle.plain_world.specs.Laws.{chooses, AnswersAreOne, RefusalsAreOne}

never : {X : Type 0} → true ≡ false → X
never e = absurd (unlike e)
  where
    unlike : true ≡ false → ⊥
    unlike e = cc

-- what a command does that leaves no choice
does_this : (world later : World) (command : Command) (reply : Reply) → chooses command ≡ false
    → Does world command reply later
    → (reply ≡ reply_of world command) × (later ≡ effects.after world command)
does_this world later (commands.Dijkstra view length start) reply sure = never sure
does_this world later (commands.Bellman view length start) reply sure = never sure
does_this world later (commands.MaxFlow view cap s t into) reply sure = never sure
does_this world later (commands.Circulate view low up supply into) reply sure = never sure
does_this world later (commands.MinCost view low up cost supply into) reply sure = never sure
does_this world later (commands.Simplex view low up cost supply into) reply sure = never sure
does_this world later (commands.Match view left) reply sure = never sure
does_this world later (commands.Heaviest view left weight) reply sure = never sure
does_this world later (commands.Assign view left cost) reply sure = never sure
does_this world later (commands.MeanCycle view length time) reply sure = never sure
does_this world later _ reply sure = λ does. does

some_none : {X : Type 0} (f : Fault) → Some f ≡ None → X
some_none f e = absurd (unlike f e)
  where
    unlike : (f : Fault) → Some f ≡ None → ⊥
    unlike f e = cc

same_fault : (f g : Fault) → Some f ≡ Some g → f ≡ g
same_fault f g e = cc

pub one_answer : AnswersAreOne
one_answer world later after command (Refused fault) (Refused other) sure step next =
    (ap Refused (same_fault fault other (sym step.0 ∙ next.0)), step.1 ∙ sym next.1)
one_answer world later after command (Refused fault) (Answered reply) sure step next =
    some_none fault (sym step.0 ∙ next.0)
one_answer world later after command (Answered reply) (Refused fault) sure step next =
    some_none fault (sym next.0 ∙ step.0)
one_answer world later after command (Answered reply) (Answered other) sure step next =
    let done = does_this world later command reply sure step.1 in
    let also = does_this world after command other sure next.1 in
    (ap Answered (done.0 ∙ sym also.0), done.1 ∙ sym also.1)

pub one_refusal : RefusalsAreOne
one_refusal world later after command fault (Refused other) step next =
    (ap Refused (same_fault other fault (sym next.0 ∙ step.0)), next.1)
one_refusal world later after command fault (Answered reply) step next =
    some_none fault (sym step.0 ∙ next.0)
