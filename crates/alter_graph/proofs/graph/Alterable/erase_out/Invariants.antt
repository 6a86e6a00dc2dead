use Rattle.std.proofs.Common.{length, map}
use Rattle.base_items.specs.declared.items.ItemSort.TheVariants as sorts
use Rattle.plain_digraph.specs.Items.{IsLive, out_arcs}
use Rattle.plain_digraph.specs.PlainSteps.{EraseArc}
use Rattle.alter_graph.specs.State.{State, state_of, IsInStep}
use Rattle.alter_graph.specs.Outcome.{Goes}
use Rattle.alter_graph.proofs.graph.Alterable.erase_out.Given as goal

abbrev pub invariant-loop-arc : goal.invariant-loop-arc
invariant-loop-arc g l = record {
  in_step : IsInStep (state_of g.O.Observer.watch l.self);
  node : IsLive l.self.graph.graph sorts.Node l.n.0;
  -- where the rest goes, all go
  rest : (t : State)
      → Goes (map EraseArc (out_arcs l.self.graph.graph l.n.0)) (state_of g.O.Observer.watch l.self)
      t
      → Goes (map EraseArc (out_arcs l.initial.self.graph.graph l.n.0))
      (state_of g.O.Observer.watch l.initial.self) t;
}

abbrev pub decreases-loop-arc : goal.decreases-loop-arc
decreases-loop-arc g l = length (out_arcs l.self.graph.graph l.n.0)
