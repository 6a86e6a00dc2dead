use Rattle.std.proofs.Common.{◌≡◌, false, ◌+◌, length}
use Rattle.alter_graph.specs.Chains.{chains_seen}
use Rattle.alter_graph.specs.State.{state_of, IsInStep}
use Rattle.desk_world.specs.Leaving.{with_none_left}
use Rattle.desk_world.proofs.leaving.take_left.Given as goal

abbrev pub invariant-loop-left : goal.invariant-loop-left
invariant-loop-left g l = record {
  graph : l.graph.graph ≡ l.initial.graph.graph;
  taken : with_none_left (chains_seen g.O.Observer.watch l.graph.chains)
      ≡ with_none_left (chains_seen g.O.Observer.watch l.initial.graph.chains);
  none : l.some ≡ false → chains_seen g.O.Observer.watch l.graph.chains
      ≡ chains_seen g.O.Observer.watch l.initial.graph.chains;
  in_step : IsInStep (state_of g.O.Observer.watch l.initial.graph)
      → IsInStep (state_of g.O.Observer.watch l.graph);
}

abbrev pub decreases-loop-left : goal.decreases-loop-left
decreases-loop-left g l =
    length (chains_seen g.O.Observer.watch l.graph.chains).nodes.left
    + length (chains_seen g.O.Observer.watch l.graph.chains).arcs.left
