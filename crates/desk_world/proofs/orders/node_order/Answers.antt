use Rattle.std.proofs.Common.{ap}
use Rattle.std.specs.Prelude.{option_map}
use Rattle.base_items.specs.declared.items.Node.{Node}
use Rattle.plain_digraph.proofs.Shares.{live_once}
use Rattle.desk_world.proofs.Walked.{walk_on, fewer_ahead}
use Rattle.desk_world.proofs.orders.node_order.Goals as goal

pub nodes-smaller : goal.nodes-smaller
nodes-smaller c =
    let live = c.nodes.invariant.listed c.in-Some.node.0
    (ap (option_map (λ (n : Node). n.0)) c.in-Some.is) in
    let once = live_once _ _ _ c.count-count.ensures.valid.node_ids in
    rw c.in-Some.is (fewer_ahead _ c.in-Some.node.0 _ once live c.next_node-next.ensures)

pub nodes-preserved : goal.nodes-preserved
nodes-preserved c =
    let once = live_once _ _ _ c.count-count.ensures.valid.node_ids in
    let was = rw c.in-Some.is at c.nodes.invariant in
    rw c.in_ok-push.ensures.items
    (walk_on _ c.in-Some.node.0 _ _ _ once was c.next_node-next.ensures)
