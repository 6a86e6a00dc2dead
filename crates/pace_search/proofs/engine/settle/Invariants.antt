use Rattle.std.proofs.Common.{length}
use Rattle.plain_certificates.specs.Tables.{at}
use Rattle.static_digraph.specs.Fixed.{graph_of}
use Rattle.pace_search.specs.Paces.{pace_graph}
use Rattle.pace_search.specs.Rounds.{AreSized, AreWithin, IsState, weight}
use Rattle.pace_search.proofs.engine.settle.Given as goal

abbrev pub invariant-rounds : goal.invariant-rounds
invariant-rounds l = record {
  sizes : AreSized (pace_graph (graph_of l.g) (length l.len)) l.len l.dist l.via;
  within : AreWithin (graph_of l.g).nodes l.dist;
  state : IsState (pace_graph (graph_of l.g) (length l.len)) (at 0 l.len) (at 0 l.initial.dist)
      l.dist l.via;
}

abbrev pub decreases-rounds : goal.decreases-rounds
decreases-rounds l = weight l.dist
