use Rattle.plain_certificates.specs.Tables.{at}
use Rattle.static_digraph.specs.Fixed.{graph_of}
use Rattle.pace_search.specs.Paces.{pace_graph}
use Rattle.pace_search.specs.Climbs.{open_count}
use Rattle.pace_search.specs.Climbs.{IsClimb}
use Rattle.pace_search.proofs.climbs.climb.Given as goal

abbrev pub invariant-loop-node : goal.invariant-loop-node
invariant-loop-node l = record {
  climb : IsClimb (pace_graph (graph_of l.g) l.count) (at 0 l.dist) (at 0 l.via) l.mark
      l.path.items l.base l.start l.node;
}

abbrev pub decreases-loop-node : goal.decreases-loop-node
decreases-loop-node l = open_count l.mark
