use Rattle.plain_world.proofs.Chosen.{choices_tell}
use Rattle.plain_world.proofs.laws.choices_tell_answers.Goals as goal

pub returns : goal.returns
returns c = choices_tell
