use Rattle.std.proofs.Common.{◌+◌, ◌-◌, ◌≤◌, length}
use Rattle.plain_certificates.specs.Tables.{at}
use Rattle.static_digraph.specs.Fixed.{graph_of}
use Rattle.pace_search.specs.Paces.{pace_graph}
use Rattle.pace_search.specs.Rounds.{AreSized, AreWithin, IsRound, Keeps}
use Rattle.pace_search.proofs.rounds.relax_all.Given as goal

abbrev pub invariant-loop-pace : goal.invariant-loop-pace
invariant-loop-pace l = record {
  below : l.pace ≤ length l.len;
  sizes : AreSized (pace_graph (graph_of l.g) (length l.len)) l.len l.dist l.via;
  within : AreWithin ((graph_of l.g).nodes + l.pace) l.dist;
  tree : Keeps (pace_graph (graph_of l.g) (length l.len)) (at 0 l.len) l.initial.dist
      l.initial.via l.dist l.via;
  round : IsRound (pace_graph (graph_of l.g) (length l.len)) (at 0 l.len) l.pace
      l.initial.dist l.initial.via l.dist l.via l.changed;
}

abbrev pub decreases-loop-pace : goal.decreases-loop-pace
decreases-loop-pace l = length l.len - l.pace
