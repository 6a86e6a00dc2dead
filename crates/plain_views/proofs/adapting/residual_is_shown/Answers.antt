use Rattle.plain_views.proofs.Adapted.{residual_is_shown, residual_below}
use Rattle.plain_views.proofs.adapting.residual_is_shown.Goals as goal

pub returns : goal.returns
returns c = λ cap flow. (residual_is_shown cap flow, residual_below cap flow)
