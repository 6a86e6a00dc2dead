use Rattle.plain_world.proofs.StampsTaken.{few_taken}
use Rattle.plain_world.proofs.laws.few_stamps_are_taken.Goals as goal

pub returns : goal.returns
returns c = few_taken
