use Rattle.plain_views.proofs.Adapted.{undirected_is_shown, undirected_below}
use Rattle.plain_views.proofs.adapting.undirected_is_shown.Goals as goal

pub returns : goal.returns
returns c = (undirected_is_shown, undirected_below)
