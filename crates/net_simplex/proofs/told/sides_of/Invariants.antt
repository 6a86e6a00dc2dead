use Rattle.std.proofs.Common.{◌≡◌, ◌<◌, ℕ, pos, false, length}
use Rattle.plain_certificates.specs.Tables.{at}
use Rattle.net_simplex.specs.Told.{IsSide}
use Rattle.net_simplex.proofs.told.sides_of.Given as goal

abbrev pub invariant-loop-v : goal.invariant-loop-v
invariant-loop-v l = record {
  all : length l.set.items ≡ l.n;
  each : (j : ℕ) → j < l.v → IsSide l.over (at (pos 0) l.price j) (at false l.set.items j);
}
