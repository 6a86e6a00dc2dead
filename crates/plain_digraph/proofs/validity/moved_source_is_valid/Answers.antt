use Rattle.plain_digraph.proofs.Changes.{valid_moved_source}
use Rattle.plain_digraph.proofs.validity.moved_source_is_valid.Goals as goal

pub returns : goal.returns
returns c = λ g arc node valid live node_live left.
    valid_moved_source g arc valid live node node_live left
