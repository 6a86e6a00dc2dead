use Rattle.std.proofs.Common.{◌≡◌, IsTrue, [], map, length, Contains}
use Rattle.plain_digraph.specs.PlainSteps.{EraseNode}
use Rattle.alter_graph.specs.Chains.{chains_seen}
use Rattle.alter_graph.specs.State.{State, state_of, IsInStep}
use Rattle.alter_graph.specs.Snaps.{is_valid, node_half, arc_half, added_of, kept_of}
use Rattle.alter_graph.specs.Outcome.{Goes}
use Rattle.alter_graph.proofs.graph.Alterable.erase_added_nodes.Given as goal

abbrev pub invariant-loop-id : goal.invariant-loop-id
invariant-loop-id g l = record {
  in_step : IsInStep (state_of g.O.Observer.watch l.self);
  there : Contains l.self.chains.snaps l.name;
  valid : IsTrue (is_valid l.name (chains_seen g.O.Observer.watch l.self.chains));
  back : kept_of (arc_half l.name (chains_seen g.O.Observer.watch l.self.chains)) ≡ [];
  other : arc_half l.name (chains_seen g.O.Observer.watch l.self.chains)
      ≡ arc_half l.name (chains_seen g.O.Observer.watch l.initial.self.chains);
  -- where the rest goes, all go
  rest : (t : State)
      → Goes (map EraseNode (added_of (node_half l.name
      (chains_seen g.O.Observer.watch l.self.chains)))) (state_of g.O.Observer.watch l.self) t
      → Goes (map EraseNode (added_of (node_half l.name
      (chains_seen g.O.Observer.watch l.initial.self.chains))))
      (state_of g.O.Observer.watch l.initial.self) t;
}

abbrev pub decreases-loop-id : goal.decreases-loop-id
decreases-loop-id g l =
    length (added_of (node_half l.name (chains_seen g.O.Observer.watch l.self.chains)))
