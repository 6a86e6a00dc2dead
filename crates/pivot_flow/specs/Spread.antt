-- The part of the tree whose potentials change.
use Rattle.std.specs.Prelude.{◌≡◌, ℕ, ◌+◌, ◌<◌, Bool, true, false, ℤ, pos}
use Rattle.std.specs.Prelude.{List, slice_index_or}
use Rattle.pivot_flow.specs.Tree.{IsLow, Task}

abbrev pub price_at : List ℤ → ℕ → ℤ
price_at xs v = slice_index_or xs v (pos 0)

-- the part that hangs at `inner` under `outer`: d are depths that are right outside of it
pub record IsCut (t : Task) (p d : ℕ → ℕ) (inner outer : ℕ) : Type 0 where
  pub low : IsLow t inner
  pub hangs : p inner ≡ outer
  pub outer_node : outer < t.net.nodes
  pub part : ℕ → Bool
  pub lacks : part outer ≡ false
  pub has : part inner ≡ true
  pub lacks_root : part t.root ≡ false
  pub each : (v : ℕ) → IsLow t v → part (p v) ≡ true → part v ≡ true
  pub outside : (seen : ℕ → Bool) → seen inner ≡ true
      → ((v : ℕ) → IsLow t v → seen (p v) ≡ true → seen v ≡ true) → (v : ℕ) → IsLow t v
      → seen v ≡ false → d v ≡ d (p v) + 1
