use Rattle.std.proofs.Common.{◌-◌, ◌<◌, ◌≤◌, ◌+◌, ◌*◌, ℕ, length}
use Rattle.plain_certificates.specs.Tables.{at}
use Rattle.static_digraph.specs.Fixed.{graph_of}
use Rattle.pace_search.specs.Paces.{pace_graph}
use Rattle.pace_search.specs.Tree.{far, origin, shift}
use Rattle.pace_search.specs.Climbs.{IsMarked}
use Rattle.pace_search.proofs.climbs.find_round.Given as goal

abbrev pub invariant-loop-node : goal.invariant-loop-node
invariant-loop-node l = record {
  below : l.node ≤ length l.dist;
  marked : IsMarked (pace_graph (graph_of l.g) l.count) (at 0 l.dist) (at 0 l.via) l.mark.items
      l.base;
  passed : (w : ℕ) → w < l.node → at 0 l.dist w < far → origin ≤ at 0 l.dist w + shift * l.base;
}

abbrev pub decreases-loop-node : goal.decreases-loop-node
decreases-loop-node l = length l.dist - l.node
