use Rattle.std.proofs.Common.{◌≡◌, ◌-◌, ◌≤◌, ◌<◌, ◌*◌}
use Rattle.plain_machine.specs.Generator.{state}
use Rattle.graph_maker.specs.Cells.{arcs_text}
use Rattle.graph_maker.specs.Sending.{Sends}
use Rattle.graph_maker.proofs.making.send_arcs.Given as goal

-- the lines of the arcs before this one were sent, by four draws each
abbrev pub invariant-loop-arc : goal.invariant-loop-arc
invariant-loop-arc g l =
    Sends (g.K.Sink.taken l.initial.report) (g.K.Sink.taken l.report)
    l.initial.held.items l.held.items (arcs_text l.seed l.nodes l.arc)
    × (l.arc ≤ l.arcs)
    × (g.K.Sink.faults l.report ≡ g.K.Sink.faults l.initial.report)
    × (l.draws.state ≡ state l.seed (4 * l.arc))
    × (l.draws.state < 2147483647)

abbrev pub decreases-loop-arc : goal.decreases-loop-arc
decreases-loop-arc g l = l.arcs - l.arc
