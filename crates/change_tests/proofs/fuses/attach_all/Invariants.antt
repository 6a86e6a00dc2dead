use Rattle.std.proofs.Common.{◌≡◌}
use Rattle.change_tests.specs.Watching.{IsWatchedInStep}
use Rattle.change_tests.proofs.fuses.attach_all.Given as goal

abbrev pub invariant-loop-number : goal.invariant-loop-number
invariant-loop-number g l = record {
  in_step : IsWatchedInStep l.all;
  names : l.all.chains.snaps ≡ l.initial.all.chains.snaps;
}
