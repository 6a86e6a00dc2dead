use Rattle.std.proofs.Common.{◌≡◌, ◌<◌, ℕ, length, pos, neg_ℤ}
use Rattle.plain_certificates.specs.Tables.{at}
use Rattle.pace_search.specs.Paces.{pace_at}
use Rattle.static_digraph.specs.Fixed.{graph_of}
use Rattle.flow_mincost.specs.Lengths.{IsLength}
use Rattle.flow_mincost.specs.Rooms.{open_load}
use Rattle.flow_mincost.proofs.lengths.drops_of.Given as goal

abbrev pub invariant-loop-pace : goal.invariant-loop-pace
invariant-loop-pace l = record {
  sized : length l.lens.items ≡ l.paces;
  each : (k : ℕ) → k < l.pace
      → IsLength (open_load (at 0 l.cap) (at 0 l.sent) (pace_at (graph_of l.g) k))
      (neg_ℤ (pos 1)) (at (pos 0) l.lens.items k);
}
