use Rattle.plain_views.proofs.Adapted.{reversed_is_shown, reversed_below}
use Rattle.plain_views.proofs.adapting.reversed_is_shown.Goals as goal

pub returns : goal.returns
returns c = (reversed_is_shown, reversed_below)
