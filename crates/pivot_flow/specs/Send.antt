-- What is sent round such a cycle.
use Rattle.std.specs.Prelude.{◌≡◌, ◌⊎◌, ℕ, ◌<◌, ◌≤◌, pos, ◌+ℤ◌}
use Rattle.plain_certificates.specs.Numbered.{net}
use Rattle.plain_certificates.specs.Pushes.{at_node}
use Rattle.plain_certificates.specs.Rooms.{IsSentFrom, IsSentTo, room_from, room_to}
use Rattle.pivot_flow.specs.Tree.{ComesTo, IsLow, IsTreeArc, Task, Tree}
use Rattle.plain_certificates.specs.Rooms.{IsSentFrom, IsSentTo}

-- the state while `step` is sent down to i as far as from a, and up from j as far as to b
pub record IsSent (t : Task) (h : Tree) (f f' : ℕ → ℕ) (i j a b step : ℕ) : Type 0 where
  pub within : (k : ℕ) → k < t.net.arcs → f' k ≤ t.cap k
  pub before : (v : ℕ) → IsLow t v → ComesTo h i v → h.depth a < h.depth v
      → IsSentTo t.net t.cap f f' (h.arc v) v step
  pub after : (v : ℕ) → IsLow t v → ComesTo h j v → h.depth b < h.depth v
      → IsSentFrom t.net t.cap f f' (h.arc v) v step
  pub each : (v : ℕ) → IsLow t v
      → ((ComesTo h i v × (h.depth a < h.depth v)) ⊎ (ComesTo h j v × (h.depth b < h.depth v)))
      ⊎ (f' (h.arc v) ≡ f (h.arc v))
  pub rest : (k : ℕ) → k < t.net.arcs → (f' k ≡ f k) ⊎ IsTreeArc t h k
  pub nets : (v : ℕ) → v < t.net.nodes
      → net t.net (λ k. pos (f' k)) v +ℤ (at_node i (pos step) v +ℤ at_node b (pos step) v)
      ≡ net t.net (λ k. pos (f k)) v +ℤ (at_node j (pos step) v +ℤ at_node a (pos step) v)

-- what can be sent round: w is the lowest node above both i and j
pub record CanSend (t : Task) (h : Tree) (f : ℕ → ℕ) (i j w step : ℕ) : Type 0 where
  pub over_i : ComesTo h i w
  pub over_j : ComesTo h j w
  pub apart : (c : ℕ) → ComesTo h i c → ComesTo h j c → h.depth c ≤ h.depth w
  pub before : (v : ℕ) → ComesTo h i v → h.depth w < h.depth v
      → step ≤ room_to t.net t.cap f (h.arc v) v
  pub after : (v : ℕ) → ComesTo h j v → h.depth w < h.depth v
      → step ≤ room_from t.net t.cap f (h.arc v) v

-- where the sending stands
pub record IsBetween (t : Task) (h : Tree) (i j w a b : ℕ) : Type 0 where
  pub a_node : a < t.net.nodes
  pub b_node : b < t.net.nodes
  pub over_a : ComesTo h i a
  pub over_b : ComesTo h j b
  pub a_over : h.depth w ≤ h.depth a
  pub b_over : h.depth w ≤ h.depth b
