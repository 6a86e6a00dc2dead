use Rattle.std.proofs.Common.{[], length}
use Rattle.std.specs.Prelude.{option_map}
use Rattle.plain_digraph.specs.Lists.{ahead}
use Rattle.plain_digraph.specs.Items.{ids}
use Rattle.desk_world.proofs.Walked.{Walked}
use Rattle.desk_world.proofs.orders.node_order.Given as goal

abbrev pub invariant-nodes : goal.invariant-nodes
invariant-nodes l = Walked (ids l.graph.graph.nodes) (option_map (λ n. n.0) l.next) [] l.nodes.items

abbrev pub decreases-nodes : goal.decreases-nodes
decreases-nodes l = length (ahead (ids l.graph.graph.nodes) (option_map (λ n. n.0) l.next))
