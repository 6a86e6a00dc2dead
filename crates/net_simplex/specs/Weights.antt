-- The costs of the arcs of the network.
use Rattle.std.specs.Prelude.{◌≡◌, ℕ, ◌+◌, ◌<◌, ◌^◌, ℤ, pos, List, length}
use Rattle.plain_certificates.specs.Tables.{at}

-- a cost for each arc of the digraph, and 2^57 for the others
pub record AreWeights (m n : ℕ) (cost : ℕ → ℤ) (weights : List ℤ) : Type 0 where
  pub all : length weights ≡ m + n
  pub inner : (k : ℕ) → k < m → at (pos 0) weights k ≡ cost k
  pub rim : (v : ℕ) → v < n → at (pos 0) weights (m + v) ≡ pos (2 ^ 57)
