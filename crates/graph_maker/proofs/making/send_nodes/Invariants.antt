use Rattle.std.proofs.Common.{◌≡◌, ◌-◌, ◌≤◌}
use Rattle.graph_maker.specs.Cells.{nodes_text}
use Rattle.graph_maker.specs.Sending.{Sends}
use Rattle.graph_maker.proofs.making.send_nodes.Given as goal

-- the lines of the nodes before this one were sent
abbrev pub invariant-loop-node : goal.invariant-loop-node
invariant-loop-node g l =
    Sends (g.K.Sink.taken l.initial.report) (g.K.Sink.taken l.report)
    l.initial.held.items l.held.items (nodes_text l.node)
    × (l.node ≤ l.nodes)
    × (g.K.Sink.faults l.report ≡ g.K.Sink.faults l.initial.report)

abbrev pub decreases-loop-node : goal.decreases-loop-node
decreases-loop-node g l = l.nodes - l.node
