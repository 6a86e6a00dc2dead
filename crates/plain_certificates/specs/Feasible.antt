-- Flows that meet bounds and supplies, and sets of nodes that show that there is none.
use Rattle.std.specs.Prelude.{◌≡◌, ◌≢◌, ℕ, ◌<◌, Bool, true, false, ℤ, pos, ◌-ℤ◌, ◌≤ℤ◌, ◌<ℤ◌, Option}
use Rattle.std.specs.Prelude.{None, Some, unwrap_or}
use Rattle.plain_certificates.specs.Numbered.{Numbered, sum_where, net}
use Rattle.plain_certificates.specs.Cuts.{leaves, enters}

-- the bounds of each arc, which may lack an upper one, and the supply of each node
pub record Bounds : Type 0 where
  pub lower : ℕ → ℤ
  pub upper : ℕ → Option ℤ
  pub supply : ℕ → ℤ

-- the number is at most the bound, where there is one
abbrev pub IsAtMost : ℤ → Option ℤ → Type 0
IsAtMost x None = Unit {0}
IsAtMost x (Some bound) = x ≤ℤ bound

-- the number is below it
abbrev pub IsBelow : ℤ → Option ℤ → Type 0
IsBelow x None = Unit {0}
IsBelow x (Some bound) = x <ℤ bound

-- the flow is within its bounds, and each node sends out what it supplies
pub record IsFeasible (g : Numbered) (bounds : Bounds) (flow : ℕ → ℤ) : Type 0 where
  pub above_lower : (arc : ℕ) → arc < g.arcs → bounds.lower arc ≤ℤ flow arc
  pub within_upper : (arc : ℕ) → arc < g.arcs → IsAtMost (flow arc) (bounds.upper arc)
  pub supplied : (node : ℕ) → node < g.nodes → net g flow node ≡ bounds.supply node

-- the upper bound, where there is one
abbrev pub upper_of : Bounds → ℕ → ℤ
upper_of bounds arc = unwrap_or (bounds.upper arc) (pos 0)

-- each arc that passes the test has an upper bound
abbrev pub AreBounded : Numbered → Bounds → (ℕ → Bool) → Type 0
AreBounded g bounds test =
    (arc : ℕ) → arc < g.arcs → test arc ≡ true → bounds.upper arc ≢ None

-- the set supplies more than can leave it
pub record IsOver (g : Numbered) (bounds : Bounds) (set : ℕ → Bool) (supply limit : ℤ)
    : Type 0 where
  pub supply_is : supply ≡ sum_where g.nodes set bounds.supply
  pub limit_is : limit
      ≡ sum_where g.arcs (leaves g set) (upper_of bounds)
      -ℤ sum_where g.arcs (enters g set) bounds.lower
  pub bounded : AreBounded g bounds (leaves g set)
  pub above : limit <ℤ supply

-- the set supplies less than must leave it
pub record IsUnder (g : Numbered) (bounds : Bounds) (set : ℕ → Bool) (supply limit : ℤ)
    : Type 0 where
  pub supply_is : supply ≡ sum_where g.nodes set bounds.supply
  pub limit_is : limit
      ≡ sum_where g.arcs (leaves g set) bounds.lower
      -ℤ sum_where g.arcs (enters g set) (upper_of bounds)
  pub bounded : AreBounded g bounds (enters g set)
  pub below : supply <ℤ limit

-- one or the other
abbrev pub IsBarrier : Numbered → Bounds → Bool → (ℕ → Bool) → ℤ → ℤ → Type 0
IsBarrier g bounds true set supply limit = IsOver g bounds set supply limit
IsBarrier g bounds false set supply limit = IsUnder g bounds set supply limit
