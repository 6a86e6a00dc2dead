use Rattle.kept_walks.proofs.Ends.{ends_held}
use Rattle.kept_walks.proofs.laws.ends_are_held.Goals as goal

pub returns : goal.returns
returns c = ends_held
