use Rattle.plain_views.proofs.Base.{base_below}
use Rattle.plain_views.proofs.grounding.base_is_below.Goals as goal

pub returns : goal.returns
returns c = base_below
