use Rattle.std.proofs.Common.{◌≡◌, ◌<◌, ℕ, length, pos, true}
use Rattle.plain_certificates.specs.Pushes.{by_pace}
use Rattle.plain_certificates.specs.Tables.{at}
use Rattle.pace_search.specs.Paces.{pace_at}
use Rattle.static_digraph.specs.Fixed.{graph_of}
use Rattle.flow_mincost.specs.Lengths.{IsLength}
use Rattle.flow_mincost.specs.Rooms.{room}
use Rattle.flow_mincost.proofs.lengths.costs_of.Given as goal

abbrev pub invariant-loop-pace : goal.invariant-loop-pace
invariant-loop-pace l = record {
  sized : length l.lens.items ≡ l.paces;
  each : (k : ℕ) → k < l.pace
      → IsLength (room (at 0 l.cap) (at 0 l.sent) true (pace_at (graph_of l.g) k))
      (by_pace (pace_at (graph_of l.g) k) (at (pos 0) l.cost (pace_at (graph_of l.g) k).arc))
      (at (pos 0) l.lens.items k);
}
