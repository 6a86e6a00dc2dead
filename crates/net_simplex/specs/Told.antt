-- The sides of a barrier, made of what a run leaves.
use Rattle.std.specs.Prelude.{◌≡◌, ℕ, ◌<◌, Bool, true, false, ℤ, pos, ◌≤ℤ◌, ◌<ℤ◌, List}
use Rattle.std.specs.Prelude.{length}
use Rattle.plain_certificates.specs.Tables.{at}

-- whether a potential is on the side of a barrier: below 0 where it supplies too much, above 0
-- where it supplies too little
abbrev pub IsSide : Bool → ℤ → Bool → Type 0
IsSide true price true = price <ℤ pos 0
IsSide true price false = pos 0 ≤ℤ price
IsSide false price true = pos 0 <ℤ price
IsSide false price false = price ≤ℤ pos 0

-- the nodes on one side
pub record AreSides (n : ℕ) (price : ℕ → ℤ) (over : Bool) (nodes : List Bool) : Type 0 where
  pub all : length nodes ≡ n
  pub each : (v : ℕ) → v < n → IsSide over (price v) (at false nodes v)
