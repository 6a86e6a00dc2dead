use Rattle.plain_world.proofs.Loaded.{loaded_ok}
use Rattle.plain_world.proofs.laws.loaded_worlds_are_valid.Goals as goal

pub returns : goal.returns
returns c = loaded_ok
