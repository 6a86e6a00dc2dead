-- Potentials, as they are told.
use Rattle.std.specs.Prelude.{◌≡◌, ℕ, ◌<◌, ℤ, pos, ◌-ℤ◌, List, length}
use Rattle.plain_certificates.specs.Tables.{at}

-- the potentials, as they stand to that of the first node
pub record ArePotentials (n : ℕ) (price : ℕ → ℤ) (pi : List ℤ) : Type 0 where
  pub all : length pi ≡ n
  pub each : (v : ℕ) → v < n → at (pos 0) pi v ≡ price v -ℤ price 0
