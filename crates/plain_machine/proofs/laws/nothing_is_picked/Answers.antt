use Rattle.plain_machine.proofs.Stepped.{nothing_picked}
use Rattle.plain_machine.proofs.laws.nothing_is_picked.Goals as goal

pub returns : goal.returns
returns c = nothing_picked
