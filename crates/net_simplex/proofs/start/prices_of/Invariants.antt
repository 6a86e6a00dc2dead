use Rattle.std.proofs.Common.{◌≡◌, ◌+◌, ◌<◌, ℕ, pos, length}
use Rattle.plain_certificates.specs.Tables.{at}
use Rattle.net_simplex.specs.Start.{IsFirstPrice}
use Rattle.net_simplex.proofs.start.prices_of.Given as goal

abbrev pub invariant-loop-v : goal.invariant-loop-v
invariant-loop-v l = record {
  all : length l.prices.items ≡ l.n + 1;
  each : (j : ℕ) → j < l.v
      → IsFirstPrice (at (pos 0) l.excess j) (at (pos 0) l.prices.items j);
  top : at (pos 0) l.prices.items l.n ≡ pos 0;
}
