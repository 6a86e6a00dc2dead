use Rattle.plain_world.proofs.CommandsKept.{commands_kept}
use Rattle.plain_world.proofs.laws.steps_keep_worlds.Goals as goal

pub returns : goal.returns
returns c = commands_kept
