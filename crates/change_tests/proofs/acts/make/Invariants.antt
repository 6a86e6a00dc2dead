use Rattle.std.proofs.Common.{◌≡◌}
use Rattle.change_tests.specs.Watching.{IsWatchedInStep}
use Rattle.change_tests.proofs.acts.make.Given as goal

abbrev pub invariant-loop-it : goal.invariant-loop-it
invariant-loop-it g l = record {
  in_step : IsWatchedInStep l.all;
  names : l.all.chains.snaps ≡ l.initial.all.chains.snaps;
}
