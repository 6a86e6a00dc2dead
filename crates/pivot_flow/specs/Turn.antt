-- A part of the tree that hangs by another of its nodes.
use Rattle.std.specs.Prelude.{◌≡◌, ◌⊎◌, ℕ, ◌<◌, ◌≤◌}
use Rattle.pivot_flow.specs.Tree.{ComesTo, IsLow, Task, Tree}

-- the state while the part below x is hung on again at `inner`: from there up to below c each
-- parent hangs by the arc of its child, and c is the next one, to be hung under `hook` by the arc
-- `by`
pub record IsTurning (t : Task) (h : Tree) (p a : ℕ → ℕ)
    (inner outer e c hook by : ℕ) : Type 0 where
  pub node : c < t.net.nodes
  pub over : ComesTo h inner c
  pub kept : (v : ℕ) → (ComesTo h inner v → h.depth v ≤ h.depth c) → (p v ≡ h.parent v)
      × (a v ≡ h.arc v)
  pub done : (u : ℕ) → IsLow t u → ComesTo h inner u → h.depth c < h.depth (h.parent u)
      → (p (h.parent u) ≡ u) × (a (h.parent u) ≡ h.arc u)
  pub first : h.depth c < h.depth inner → (p inner ≡ outer) × (a inner ≡ e)
  pub next : ((c ≡ inner) × ((hook ≡ outer) × (by ≡ e)))
      ⊎ ((h.depth c < h.depth inner)
      × (IsLow t hook × (ComesTo h inner hook × ((h.parent hook ≡ c) × (by ≡ h.arc hook)))))

-- the part below x hangs at `inner` under `outer`: the parents from `inner` up to x are turned
pub record IsTurned (t : Task) (h : Tree) (p a : ℕ → ℕ) (inner outer e x : ℕ) : Type 0 where
  pub kept : (v : ℕ) → (ComesTo h inner v → h.depth v < h.depth x) → (p v ≡ h.parent v)
      × (a v ≡ h.arc v)
  pub turned : (u : ℕ) → IsLow t u → ComesTo h inner u → h.depth x < h.depth u
      → (p (h.parent u) ≡ u) × (a (h.parent u) ≡ h.arc u)
  pub first : (p inner ≡ outer) × (a inner ≡ e)
