use Rattle.plain_views.proofs.Base.{base_out_ids, base_in_ids}
use Rattle.plain_views.proofs.grounding.base_lists_arcs.Goals as goal

pub returns : goal.returns
returns c = λ g node valid. (base_out_ids g valid node, base_in_ids g valid node)
