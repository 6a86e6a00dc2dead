use Rattle.plain_views.proofs.Base.{base_has_arc, base_source, base_target}
use Rattle.plain_views.proofs.grounding.base_shows_arcs.Goals as goal

pub returns : goal.returns
returns c = λ g arc valid.
    (base_has_arc g arc valid, λ live. (base_source g valid arc live, base_target g valid arc live))
