use Rattle.plain_world.proofs.One.{one_answer}
use Rattle.plain_world.proofs.laws.answers_are_one.Goals as goal

pub returns : goal.returns
returns c = one_answer
