use Rattle.std.proofs.Common.{◌≡◌, ◌<◌, ℕ, pos, length}
use Rattle.plain_certificates.specs.Tables.{at}
use Rattle.net_simplex.specs.Start.{IsLoad}
use Rattle.net_simplex.proofs.start.loads_of.Given as goal

abbrev pub invariant-loop-k : goal.invariant-loop-k
invariant-loop-k l = record {
  all : length l.loads.items ≡ l.all;
  each : (j : ℕ) → j < l.k → IsLoad l.m (at (pos 0) l.excess) j (at 0 l.loads.items j);
}
