use Rattle.kept_walks.proofs.Based.{is_base}
use Rattle.kept_walks.proofs.laws.stored_is_base.Goals as goal

pub returns : goal.returns
returns c = is_base
