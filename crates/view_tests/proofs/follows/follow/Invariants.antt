use Rattle.alter_graph.specs.State.{state_of, IsInStep}
use Rattle.view_tests.specs.Sides.{watched}
use Rattle.view_tests.proofs.follows.follow.Given as goal

abbrev pub invariant-loop-act : goal.invariant-loop-act
invariant-loop-act g l = IsInStep (state_of watched l.all)
