use Rattle.std.proofs.Common.{◌≡◌, ◌<◌, ℕ, pos, ◌+ℤ◌, length}
use Rattle.plain_certificates.specs.Tables.{at}
use Rattle.task_bounds.proofs.flows.flows_of.Given as goal

abbrev pub invariant-loop-k : goal.invariant-loop-k
invariant-loop-k l = record {
  all : length l.flows.items ≡ length l.lower;
  each : (j : ℕ) → j < l.k
      → at (pos 0) l.flows.items j ≡ at (pos 0) l.lower j +ℤ pos (at 0 l.sent j);
}
