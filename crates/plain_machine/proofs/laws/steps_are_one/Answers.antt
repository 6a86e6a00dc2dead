use Rattle.plain_machine.proofs.Stepped.{steps_once}
use Rattle.plain_machine.proofs.laws.steps_are_one.Goals as goal

pub returns : goal.returns
returns c = steps_once
