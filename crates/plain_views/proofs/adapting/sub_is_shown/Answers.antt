use Rattle.plain_views.proofs.Adapted.{sub_is_shown, sub_below}
use Rattle.plain_views.proofs.adapting.sub_is_shown.Goals as goal

pub returns : goal.returns
returns c = λ keeps_node keeps_arc.
    (sub_is_shown keeps_node keeps_arc, sub_below keeps_node keeps_arc)
