use Rattle.std.proofs.Common.{ℕ, ℤ, pos}
use Rattle.std.specs.Int.{int_gap}
use Rattle.plain_certificates.specs.Cheapest.{cost_of}
use Rattle.plain_certificates.specs.Rooms.{as_flow}
use Rattle.plain_certificates.specs.Tables.{at}
use Rattle.static_digraph.specs.Fixed.{graph_of}
use Rattle.flow_mincost.specs.Prices.{HasNoGain}
use Rattle.flow_mincost.specs.Pushing.{Keeps}
use Rattle.flow_mincost.proofs.lowering.lower.Given as goal

abbrev pub invariant-cycles : goal.invariant-cycles
invariant-cycles l = record {
  keeps : Keeps (graph_of l.g) l.cap l.fn.sent l.sent;
  prices : (pi : ℕ → ℤ)
      → HasNoGain (graph_of l.g) (at 0 l.cap) (at (pos 0) l.cost) (at 0 l.fn.sent) pi
      → HasNoGain (graph_of l.g) (at 0 l.cap) (at (pos 0) l.cost) (at 0 l.sent) pi;
}

abbrev pub decreases-cycles : goal.decreases-cycles
decreases-cycles l =
    int_gap (pos 0) (cost_of (graph_of l.g) (λ _. pos 1) (as_flow (at 0 l.sent)))
