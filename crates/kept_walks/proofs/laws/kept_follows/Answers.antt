use Rattle.kept_walks.proofs.Layered.{follows}
use Rattle.kept_walks.proofs.laws.kept_follows.Goals as goal

pub returns : goal.returns
returns c = follows
