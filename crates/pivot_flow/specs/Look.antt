-- The cycle that an entering arc closes, and the arc on it that leaves the tree.
use Rattle.std.specs.Prelude.{◌≡◌, ℕ, ◌<◌, ◌≤◌}
use Rattle.pivot_flow.specs.declared.look.Leaves.{Leaves}
use Rattle.pivot_flow.specs.declared.look.Leaves.TheVariants.{Enters, Before, After}
use Rattle.plain_certificates.specs.Rooms.{room_from, room_to}
use Rattle.pivot_flow.specs.Tree.{ComesTo, IsLow, Task, Tree}

-- what is known of the room to a node before the entering arc, from a node after it, and on the
-- entering arc: `step` is the least, and the first such arc leaves
abbrev pub FitsBefore : Tree → Leaves → ℕ → ℕ → ℕ → Type 0
FitsBefore h Enters step v room = step < room
FitsBefore h (Before x) step v room = (step ≤ room) × (h.depth v < h.depth x → step < room)
FitsBefore h (After x) step v room = step < room

abbrev pub FitsAfter : Tree → Leaves → ℕ → ℕ → ℕ → Type 0
FitsAfter h Enters step v room = step ≤ room
FitsAfter h (Before x) step v room = step ≤ room
FitsAfter h (After x) step v room = (step ≤ room) × (h.depth x < h.depth v → step < room)

abbrev pub FitsEntering : Leaves → ℕ → ℕ → Type 0
FitsEntering Enters step room = step ≡ room
FitsEntering (Before x) step room = step ≤ room
FitsEntering (After x) step room = step < room

-- the arc that leaves has just that room, and lies below `a` on its side
abbrev pub IsTight : Task → Tree → (ℕ → ℕ) → ℕ → ℕ → ℕ → ℕ → ℕ → Leaves → Type 0
IsTight t h f i j a b step Enters = Unit {0}
IsTight t h f i j a b step (Before x) = IsLow t x
    × (ComesTo h i x × ((h.depth a < h.depth x) × (room_to t.net t.cap f (h.arc x) x ≡ step)))
IsTight t h f i j a b step (After x) = IsLow t x
    × (ComesTo h j x × ((h.depth b < h.depth x) × (room_from t.net t.cap f (h.arc x) x ≡ step)))

-- the cycle of an arc from i to j with some room, looked at from i up to a and from j up to b
pub record IsLook (t : Task) (h : Tree) (f : ℕ → ℕ) (i j room a b step : ℕ)
    (leaves : Leaves) : Type 0 where
  pub a_node : a < t.net.nodes
  pub b_node : b < t.net.nodes
  pub over_a : ComesTo h i a
  pub over_b : ComesTo h j b
  pub apart : (c : ℕ) → ComesTo h i c → ComesTo h j c → (h.depth c ≤ h.depth a)
      × (h.depth c ≤ h.depth b)
  pub before : (v : ℕ) → ComesTo h i v → h.depth a < h.depth v
      → FitsBefore h leaves step v (room_to t.net t.cap f (h.arc v) v)
  pub after : (v : ℕ) → ComesTo h j v → h.depth b < h.depth v
      → FitsAfter h leaves step v (room_from t.net t.cap f (h.arc v) v)
  pub entering : FitsEntering leaves step room
  pub tight : IsTight t h f i j a b step leaves
