use Rattle.plain_machine.specs.Chosen.{PickedAnswers}
use Rattle.plain_machine.proofs.Ended.{outcomes_once}
use Rattle.plain_machine.proofs.Stepped.{picked_once}
use Rattle.plain_machine.proofs.laws.picked_outcomes_are_one.Goals as goal

pub returns : goal.returns
returns c = λ pick. outcomes_once (PickedAnswers pick) (picked_once pick)
