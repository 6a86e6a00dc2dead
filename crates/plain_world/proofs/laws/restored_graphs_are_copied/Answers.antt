use Rattle.plain_world.proofs.RestoredGraph.{restored_copied}
use Rattle.plain_world.proofs.laws.restored_graphs_are_copied.Goals as goal

pub returns : goal.returns
returns c = restored_copied
