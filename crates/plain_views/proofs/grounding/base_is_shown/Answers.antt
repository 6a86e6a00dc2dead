use Rattle.plain_views.proofs.Base.{base_is_shown}
use Rattle.plain_views.proofs.grounding.base_is_shown.Goals as goal

pub returns : goal.returns
returns c = base_is_shown
