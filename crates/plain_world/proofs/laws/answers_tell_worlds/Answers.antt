use Rattle.plain_world.proofs.Printed.{answers_tell}
use Rattle.plain_world.proofs.laws.answers_tell_worlds.Goals as goal

pub returns : goal.returns
returns c = answers_tell
