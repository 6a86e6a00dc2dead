use Rattle.std.proofs.Common.{◌≡◌, ◌≤◌, ◌<◌, ℕ}
use Rattle.plain_certificates.specs.Tables.{at}
use Rattle.task_bounds.proofs.positive.first_positive.Given as goal

abbrev pub invariant-loop-k : goal.invariant-loop-k
invariant-loop-k l = record {
  none : (j : ℕ) → l.begin ≤ j → j < l.k → at 0 l.numbers j ≡ 0;
}
