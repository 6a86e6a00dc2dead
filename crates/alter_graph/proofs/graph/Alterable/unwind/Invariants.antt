use Rattle.std.proofs.Common.{length}
use Rattle.alter_graph.specs.State.{state_of, IsSame}
use Rattle.alter_graph.specs.Steps.{undone, CanUndo}
use Rattle.alter_graph.proofs.graph.Alterable.unwind.Given as goal

abbrev pub invariant-loop-done : goal.invariant-loop-done
invariant-loop-done g l = record {
  can : CanUndo l.journal.items (state_of g.O.Observer.watch l.self);
  same : IsSame (undone l.initial.journal.items
      (state_of g.O.Observer.watch l.initial.self))
      (undone l.journal.items (state_of g.O.Observer.watch l.self));
}

abbrev pub decreases-loop-done : goal.decreases-loop-done
decreases-loop-done g l = length l.journal.items
