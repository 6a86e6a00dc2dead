use Rattle.std.proofs.Common.{ℕ, List}
use Rattle.plain_views.proofs.Renamed.{same_node_int, same_node_bool}
use Rattle.plain_views.proofs.renaming.numbered_maps_pull_alike_at_nodes.Goals as goal

pub returns : goal.returns
returns c = λ number old new tower name node agrees. (
  same_node_int (List ℕ) ℕ number old new tower name node agrees,
  same_node_bool (List ℕ) ℕ number old new tower name node agrees,
)
