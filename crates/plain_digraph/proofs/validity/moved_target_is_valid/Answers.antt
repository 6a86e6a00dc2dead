use Rattle.plain_digraph.proofs.Changes.{valid_moved_target}
use Rattle.plain_digraph.proofs.validity.moved_target_is_valid.Goals as goal

pub returns : goal.returns
returns c = λ g arc node valid live node_live left.
    valid_moved_target g arc valid live node node_live left
