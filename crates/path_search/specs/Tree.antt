-- Distances where lengths may be below 0, from one node.
use Rattle.std.specs.Prelude.{◌≡◌, ℕ, ◌<◌, cond, nat_lt, ℤ, pos, ◌-ℤ◌, Option, Some, None}
use Rattle.plain_certificates.specs.Numbered.{Numbered}
use Rattle.pace_search.specs.Tree.{far, origin}

-- of the nodes s alone begins with a distance, of 0
pub record BeginsAt (g : Numbered) (s : ℕ) (first : ℕ → ℕ) : Type 0 where
  pub start : first s ≡ origin
  pub others : (v : ℕ) → v < g.nodes → first v < far → v ≡ s

-- a distance with its sign, where it is one
abbrev pub signed_in : ℕ → Option ℤ
signed_in d = cond (nat_lt d far) (Some (pos d -ℤ pos origin)) None
