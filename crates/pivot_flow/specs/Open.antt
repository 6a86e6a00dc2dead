-- Capacities that are small or as good as none, and flows that fill none of the latter.
use Rattle.std.specs.Prelude.{◌≡◌, ◌⊎◌, ℕ, ◌<◌, ◌≤◌, ◌^◌, ℤ, pos, neg_ℤ, ◌+ℤ◌, ◌≤ℤ◌}
use Rattle.plain_certificates.specs.Numbered.{sum_to}
use Rattle.pivot_flow.specs.Tree.{Task}

-- a full arc has a cap of at most `finite`
pub record IsOpenFree (t : Task) (f : ℕ → ℕ) (finite : ℕ) : Type 0 where
  pub full : (k : ℕ) → k < t.net.arcs → f k ≡ t.cap k → t.cap k ≤ finite

-- the most that an arc carries
abbrev pub most_of : Task → (ℕ → ℤ) → ℕ → ℤ
most_of t size finite = sum_to t.net.nodes size +ℤ sum_to t.net.arcs (λ k. pos finite)

-- ---- the numbers of a run: caps are at most 2^37, or open as 2^62; what all nodes send and all
-- arcs off the tree carry is below 2^61
pub record IsRoomy (t : Task) (supply : ℕ → ℤ) : Type 0 where
  pub size : ℕ → ℤ
  pub sized : (v : ℕ) → v < t.net.nodes → (neg_ℤ (size v) ≤ℤ supply v) × (supply v ≤ℤ size v)
  pub total : most_of t size (2 ^ 37) ≤ℤ pos (2 ^ 61)
  pub caps : (k : ℕ) → k < t.net.arcs → (t.cap k ≤ 2 ^ 37) ⊎ (t.cap k ≡ 2 ^ 62)
