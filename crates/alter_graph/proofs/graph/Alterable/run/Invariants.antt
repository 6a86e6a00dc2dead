use Rattle.std.proofs.Common.{take, drop}
use Rattle.alter_graph.specs.State.{state_of}
use Rattle.alter_graph.specs.Steps.{plain_steps, CanTakeAll, HaveOwnPlaces}
use Rattle.alter_graph.specs.Parts.{Takes}
use Rattle.alter_graph.proofs.graph.Alterable.run.Given as goal

abbrev pub invariant-loop-step : goal.invariant-loop-step
invariant-loop-step g l = record {
  takes : Takes (plain_steps (take l.step-index l.steps)) (state_of g.O.Observer.watch
      l.initial.self) (state_of g.O.Observer.watch l.self) l.initial.journal.items l.journal.items;
  can : CanTakeAll (plain_steps (drop l.step-index l.steps)) l.self.graph.graph;
  own : HaveOwnPlaces (plain_steps (drop l.step-index l.steps)) (state_of g.O.Observer.watch
      l.self);
}
