use Rattle.plain_machine.specs.Chosen.{PickedAnswers}
use Rattle.plain_machine.proofs.Once.{stops_once}
use Rattle.plain_machine.proofs.Stepped.{picked_once}
use Rattle.plain_machine.proofs.laws.picked_stops_are_one.Goals as goal

pub returns : goal.returns
returns c = λ pick. stops_once (PickedAnswers pick) (picked_once pick)
