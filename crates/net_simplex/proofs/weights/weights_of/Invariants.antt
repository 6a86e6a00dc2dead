use Rattle.std.proofs.Common.{◌≡◌, ◌+◌, ◌<◌, ◌^◌, ℕ, pos, length}
use Rattle.plain_certificates.specs.Tables.{at}
use Rattle.net_simplex.proofs.weights.weights_of.Given as goal

abbrev pub invariant-loop-k : goal.invariant-loop-k
invariant-loop-k l = record {
  all : length l.weights.items ≡ length l.cost + l.n;
  done : (j : ℕ) → j < l.k → at (pos 0) l.weights.items j ≡ at (pos 0) l.cost j;
  rim : (v : ℕ) → v < l.n → at (pos 0) l.weights.items (length l.cost + v) ≡ pos (2 ^ 57);
}
