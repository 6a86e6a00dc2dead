use Rattle.std.proofs.Common.{◌≡◌, ◌<◌, ℕ, pos, ◌-ℤ◌, length}
use Rattle.plain_certificates.specs.Tables.{at}
use Rattle.task_bounds.proofs.potentials.potentials_of.Given as goal

abbrev pub invariant-loop-v : goal.invariant-loop-v
invariant-loop-v l = record {
  all : length l.pi.items ≡ l.nodes;
  each : (j : ℕ) → j < l.v
      → at (pos 0) l.pi.items j ≡ at (pos 0) l.price j -ℤ at (pos 0) l.price 0;
}
