use Rattle.std.proofs.Common.{◌≡◌, ◌-◌, ◌≤◌, length, take}
use Rattle.alter_graph.specs.Chains.{no_chains}
use Rattle.alter_graph.specs.State.{state_of, IsInStep}
use Rattle.desk_world.specs.Blank.{ArcsLead}
use Rattle.desk_world.proofs.opening.add_arcs.Given as goal

abbrev pub invariant-loop-done : goal.invariant-loop-done
invariant-loop-done g l = record {
  within : l.done ≤ length l.arcs;
  in_step : IsInStep (state_of g.O.Observer.watch l.graph);
  unseen : (state_of g.O.Observer.watch l.graph).chains ≡ no_chains;
  nodes : l.graph.graph.graph.nodes ≡ l.initial.graph.graph.graph.nodes;
  leads : ArcsLead (take l.done l.arcs) l.initial.graph.graph.graph l.graph.graph.graph;
}

abbrev pub decreases-loop-done : goal.decreases-loop-done
decreases-loop-done g l = length l.arcs - l.done
