-- Steps by given choices.
use Rattle.std.specs.Prelude.{◌≡◌, MatchBool, None, List, ℕ}
use Rattle.script_words.specs.declared.commands.Command.{Command}
use Rattle.report_text.specs.declared.replies.Reply.{Reply}
use Rattle.plain_world.specs.declared.answers.Answer.{Answer}
use Rattle.plain_world.specs.declared.answers.Answer.TheVariants.{Answered, Refused}
use Rattle.plain_world.specs.World.{World}
use Rattle.plain_world.specs.Valid.{IsWorld}
use Rattle.plain_world.specs.Refusals.{refusal_of}
use Rattle.plain_world.specs.Queries.{graph}
use Rattle.plain_world.specs.Steps.{Does, Step}
use Rattle.plain_world.specs.Laws.{chooses}
use Rattle.plain_world.specs.Choices.{Choice, Agree, choice_of, view_of}
use Rattle.plain_machine.specs.Built.{AnswersBy}

-- What is chosen for a command in a world.
abbrev pub Pick : Type 0
Pick = World → Command → Choice

-- What the command does shows this choice, on the nodes and the arcs of its view.
abbrev pub Shows : (choice : Choice) (world : World) (command : Command) (reply : Reply)
    (later : World) → Does world command reply later → Type 0
Shows choice world command reply later does =
    Agree (graph world (view_of command)).nodes (graph world (view_of command)).arcs
    (choice_of world command reply later does) choice

-- The world is valid, and the command does this by the choice.
abbrev pub DoesBy : Choice → World → Command → Reply → World → Type 0
DoesBy choice world command reply later =
    IsWorld world
    × (does : Does world command reply later) × Shows choice world command reply later does

-- The command has this answer and leaves this world; where it leaves a choice, by that which is
-- picked.
abbrev pub StepBy : Pick → World → Command → Answer → World → Type 0
StepBy pick world command (Refused fault) later = Step world command (Refused fault) later
StepBy pick world command (Answered reply) later =
    (refusal_of world command ≡ None)
    × MatchBool (chooses command)
    (DoesBy (pick world command) world command reply later)
    (Does world command reply later)

-- The line has this answer by what is picked.
abbrev pub PickedAnswers : Pick → World → List ℕ → Answer → World → Type 0
PickedAnswers pick = AnswersBy (StepBy pick)
