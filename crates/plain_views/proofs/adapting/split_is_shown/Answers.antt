use Rattle.plain_views.proofs.Adapted.{split_is_shown, split_below}
use Rattle.plain_views.proofs.adapting.split_is_shown.Goals as goal

pub returns : goal.returns
returns c = (split_is_shown, λ p bound shown. split_below p bound)
