-- Forests by parents, where each node knows its depth.
use Rattle.std.specs.Prelude.{◌≡◌, ℕ, zero, suc, ◌-◌, ◌≤◌}

-- the parent and the depth of each node
pub record Forest : Type 0 where
  pub parent : ℕ → ℕ
  pub depth : ℕ → ℕ

-- going up n times
abbrev pub lift : (ℕ → ℕ) → ℕ → ℕ → ℕ
lift parent zero node = node
lift parent (suc n) node = parent (lift parent n node)

-- going up from u one comes to v
pub record IsOver (h : Forest) (u v : ℕ) : Type 0 where
  pub high : h.depth v ≤ h.depth u
  pub is : lift h.parent (h.depth u - h.depth v) u ≡ v
