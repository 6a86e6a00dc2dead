use Rattle.std.proofs.Common.{pos}
use Rattle.std.specs.Int.{int_gap}
use Rattle.plain_certificates.specs.Cheapest.{cost_of}
use Rattle.plain_certificates.specs.Rooms.{as_flow}
use Rattle.plain_certificates.specs.Tables.{at}
use Rattle.static_digraph.specs.Fixed.{graph_of}
use Rattle.flow_mincost.specs.Pushing.{Keeps}
use Rattle.flow_mincost.specs.Sent.{floor_of}
use Rattle.flow_mincost.proofs.cancelling.cancel.Given as goal

abbrev pub invariant-cycles : goal.invariant-cycles
invariant-cycles l = Keeps (graph_of l.g) l.cap l.fn.sent l.sent

abbrev pub decreases-cycles : goal.decreases-cycles
decreases-cycles l =
    int_gap (floor_of (graph_of l.g))
    (cost_of (graph_of l.g) (at (pos 0) l.cost) (as_flow (at 0 l.sent)))
