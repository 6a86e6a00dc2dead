use Rattle.plain_world.proofs.One.{one_refusal}
use Rattle.plain_world.proofs.laws.refusals_are_one.Goals as goal

pub returns : goal.returns
returns c = one_refusal
