-- A line has one answer by what is picked, and one by whatever is picked where it leaves no choice.
use Rattle.std.proofs.Common.{◌≡◌, Bool, true, false, refl, sym, ◌∙◌, ap, subst, inl, inr}
use Rattle.std.specs.Prelude.{MatchBool, None, Some}
use Rattle.script_words.specs.declared.commands.Command.{Command}
use Rattle.script_words.proofs.Verdicts.{one_command, one_column}
use Rattle.report_text.specs.declared.faults.Fault.{Fault}
use Rattle.report_text.specs.declared.faults.Fault.TheVariants.{BadLine}
use Rattle.report_text.specs.declared.replies.Reply.{Reply}
use Rattle.plain_world.specs.declared.answers.Answer.{Answer}
use Rattle.plain_world.specs.declared.answers.Answer.TheVariants.{Answered, Refused}
use Rattle.plain_world.specs.World.{World}
use Rattle.plain_world.specs.Queries.{graph}
use Rattle.plain_world.specs.Choices.{choice_of, view_of}
use Rattle.plain_world.specs.Laws.{chooses}
use Rattle.plain_world.specs.Steps.{Does, Step}
use Rattle.plain_world.proofs.One.{one_answer, one_refusal}
use Rattle.plain_world.proofs.Chosen.{choices_tell}
use Rattle.plain_machine.specs.Built.{is_built, IsBadAt, first_column, AnswersCommand, AnswersBy}
use Rattle.plain_machine.specs.Chosen.{Pick, DoesBy, StepBy, PickedAnswers}
use Rattle.plain_machine.specs.Laws.{StepsAreOne, NothingIsPicked}
use Rattle.plain_machine.proofs.Alike.{agree_both}
use Rattle.plain_machine.proofs.Once.{both_by, AnswersOnce}

-- ---- steps

-- A command that is refused isn't answered.
refused_not_done : {R : Type 0} (pick : Pick) (world later after : World) (command : Command)
    (fault : Fault) (reply : Reply) → StepBy pick world command (Refused fault) later
    → StepBy pick world command (Answered reply) after → R
refused_not_done pick world later after command fault reply step next =
    absurd (unlike (sym step.0 ∙ next.0))
  where
    unlike : Some fault ≡ None → ⊥
    unlike e = cc

pub steps_once : StepsAreOne
steps_once pick world later after command (Refused fault) (Refused other) step next =
    let same = one_refusal world later after command fault (Refused other) step next in
    (sym same.0, step.1 ∙ sym same.1)
steps_once pick world later after command (Refused fault) (Answered reply) step next =
    refused_not_done pick world later after command fault reply step next
steps_once pick world later after command (Answered reply) (Refused fault) step next =
    refused_not_done pick world after later command fault reply next step
steps_once pick world later after command (Answered reply) (Answered other) step next =
    both_by (chooses command)
    (DoesBy (pick world command) world command reply later) (Does world command reply later)
    (DoesBy (pick world command) world command other after) (Does world command other after)
    step.1 next.1
    (λ picked (one : DoesBy (pick world command) world command reply later)
    (two : DoesBy (pick world command) world command other after).
    let shown = agree_both (graph world (view_of command)).nodes
    (graph world (view_of command)).arcs (pick world command)
    (choice_of world command reply later one.1) (choice_of world command other after two.1)
    one.2 two.2 in
    let same = choices_tell world later after command reply other one.1 two.1 one.0 shown in
    (ap Answered same.0, same.1))
    (λ sure one two.
    one_answer world later after command (Answered reply) (Answered other) sure (step.0, one)
    (next.0, two))

-- ---- lines

-- Where commands have one answer, lines have.
pub lines_once : (step : World → Command → Answer → World → Type 0)
    → ((world later after : World) (command : Command) (answer other : Answer)
    → step world command answer later → step world command other after
    → (answer ≡ other) × (later ≡ after))
    → AnswersOnce (AnswersBy step)
lines_once step once world later after line answer other (inl one) (inl two) =
    let same = one_command line one.0 two.0 one.1 two.1 in
    let said = subst (λ c. AnswersCommand step world line c answer later) same one.2 in
    both_by (is_built two.0)
    (step world two.0 answer later) (IsBadAt world (first_column line) answer later)
    (step world two.0 other after) (IsBadAt world (first_column line) other after) said two.2
    (λ built a b. once world later after two.0 answer other a b)
    (λ unbuilt a b. (a.0 ∙ sym b.0, a.1 ∙ sym b.1))
lines_once step once world later after line answer other (inl one) (inr two) =
    absurd (two.1.unsaid one.0 one.1)
lines_once step once world later after line answer other (inr one) (inl two) =
    absurd (one.1.unsaid two.0 two.1)
lines_once step once world later after line answer other (inr one) (inr two) =
    let same = one_column line one.0 two.0 one.1 two.1 in
    (one.2.0 ∙ ap (λ column. Refused (BadLine column)) same ∙ sym two.2.0, one.2.1 ∙ sym two.2.1)

pub picked_once : (pick : Pick) → AnswersOnce (PickedAnswers pick)
picked_once pick = lines_once (StepBy pick) (steps_once pick)

-- ---- commands that leave no choice

-- What a choice says where its test fails.
at_false : (b : Bool) (P Q : Type 0) → b ≡ false → Q → MatchBool b P Q
at_false true P Q e q = absurd (unlike e)
  where
    unlike : true ≡ false → ⊥
    unlike e = cc
at_false false P Q e q = q

-- Its steps are those by whatever is picked.
sure_step : (pick : Pick) (world later : World) (command : Command) (answer : Answer)
    → chooses command ≡ false → Step world command answer later
    → StepBy pick world command answer later
sure_step pick world later command (Refused fault) sure step = step
sure_step pick world later command (Answered reply) sure step = (
  step.0,
  at_false (chooses command) (DoesBy (pick world command) world command reply later)
      (Does world command reply later) sure step.1,
)

pub nothing_picked : NothingIsPicked
nothing_picked pick world later line answer sure (inr bad) = inr bad
nothing_picked pick world later line answer sure (inl said) =
    inl (said.0, said.1, by_test (is_built said.0) refl said.2)
  where
    by_test : (b : Bool) → is_built said.0 ≡ b
        → MatchBool b (Step world said.0 answer later)
        (IsBadAt world (first_column line) answer later)
        → MatchBool b (StepBy pick world said.0 answer later)
        (IsBadAt world (first_column line) answer later)
    by_test true built step =
        sure_step pick world later said.0 answer (sure said.0 said.1) step
    by_test false built bad = bad
