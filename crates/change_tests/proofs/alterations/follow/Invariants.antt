use Rattle.alter_graph.specs.State.{IsInStep, state_of}
use Rattle.change_tests.specs.Moods.{moody_watched}
use Rattle.change_tests.proofs.alterations.follow.Given as goal

abbrev pub invariant-loop-change : goal.invariant-loop-change
invariant-loop-change g l = record { in_step : IsInStep (state_of (λ _. moody_watched) l.all) }
