-- Sums of numbers without a sign.
use Rattle.std.specs.Prelude.{ℕ, zero, suc, ◌+◌}

-- the sum of a term over the numbers below one
abbrev pub total_to : ℕ → (ℕ → ℕ) → ℕ
total_to zero term = 0
total_to (suc n) term = total_to n term + term n
