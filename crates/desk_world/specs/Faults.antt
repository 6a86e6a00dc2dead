-- What a look at the world answers of a demand.
use Rattle.std.specs.Prelude.{◌≡◌, List, map, Option, None, Some, Result, Ok, Err}
use Rattle.script_words.specs.declared.commands.Command.{Command}
use Rattle.report_text.specs.declared.faults.Fault.{Fault}
use Rattle.report_text.specs.declared.faults.StepFault.{StepFault}
use Rattle.report_text.specs.declared.faults.StepFault.TheVariants as faults
use Rattle.report_text.specs.declared.replies.Reply.{Reply}
use Rattle.plain_world.specs.World.{World}
use Rattle.plain_world.specs.Demands.{Demand}
use Rattle.plain_world.specs.Refusals.{breach, first_of}
use Rattle.plain_world.specs.Steps.{Step}
use Rattle.plain_machine.specs.Built.{RefusedBy}
use Rattle.plain_world.specs.declared.answers.Answer.TheVariants as answers

-- it is refused with this fault, or memory ran out
abbrev pub Is : Option Fault → StepFault → Type 0
Is fault (faults.Refused refused) = fault ≡ Some refused
Is fault faults.Memory = Unit {0}

-- the demand is met, or it is refused with the fault that stands behind it, or memory ran out
abbrev pub Meets : {X : Type 0} → World → Demand → Result X StepFault → Type 0
Meets world demand (Ok _) = breach world demand ≡ None
Meets world demand (Err fault) = Is (breach world demand) fault

-- so for some demands in their order: the first that isn't met refuses
abbrev pub MeetsAll : {X : Type 0} → World → List Demand → Result X StepFault → Type 0
MeetsAll world demands (Ok _) = first_of (map (breach world) demands) ≡ None
MeetsAll world demands (Err fault) = Is (first_of (map (breach world) demands)) fault

-- the command's answer, the world that it leaves being the second
abbrev pub Answers : World → Command → World → Result Reply StepFault → Type 0
Answers old command new (Ok reply) = Step old command (answers.Answered reply) new
Answers old command new (Err fault) = RefusedBy old command new fault
