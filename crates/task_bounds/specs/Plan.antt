-- A task made ready.
use Rattle.std.specs.Prelude.{◌≡◌, ◌⊎◌, ℕ, ◌+◌, ◌<◌, ◌≤◌, ◌^◌, ℤ, pos, List, length}
use Rattle.plain_certificates.specs.Feasible.{Bounds, upper_of}
use Rattle.plain_certificates.specs.Numbered.{Numbered, EndsAreNodes}
use Rattle.plain_certificates.specs.Tables.{at}
use Rattle.task_bounds.specs.declared.plan.Plan.{Plan}
use Rattle.task_bounds.specs.Excess.{AreLight, IsExcess}
use Rattle.task_bounds.specs.Given.{IsSpan, IsValue}

-- so many small values
pub record AreSmall (count : ℕ) (list : List ℤ) : Type 0 where
  pub all : length list ≡ count
  pub small : (k : ℕ) → k < count → IsValue (at (pos 0) list k)

-- a capacity for each arc, and open ones for so many added arcs
pub record AreCaps (g : Numbered) (added : ℕ) (cap : List ℕ) : Type 0 where
  pub all : length cap ≡ g.arcs + added
  pub inner : (k : ℕ) → k < g.arcs → (at 0 cap k ≤ 2 ^ 37) ⊎ (at 0 cap k ≡ 2 ^ 62)
  pub rim : (v : ℕ) → v < added → at 0 cap (g.arcs + v) ≡ 2 ^ 62

-- what is ready fits the digraph
pub record IsReady (g : Numbered) (added : ℕ) (plan : Plan) : Type 0 where
  pub ends : EndsAreNodes g
  pub few_nodes : g.nodes ≤ 2 ^ 20
  pub few_arcs : g.arcs ≤ 2 ^ 22
  pub lower : AreSmall g.arcs plan.lower.items
  pub upper : AreSmall g.arcs plan.upper.items
  pub supply : AreSmall g.nodes plan.supply.items
  pub caps : AreCaps g added plan.caps.items
  pub excess_all : length plan.excess.items ≡ g.nodes
  pub light : AreLight g (at (pos 0) plan.excess.items)

-- it is the task with these bounds
pub record IsReadyFor (g : Numbered) (bounds : Bounds) (plan : Plan) : Type 0 where
  pub lower : (k : ℕ) → k < g.arcs → at (pos 0) plan.lower.items k ≡ bounds.lower k
  pub upper : (k : ℕ) → k < g.arcs → at (pos 0) plan.upper.items k ≡ upper_of bounds k
  pub supply : (v : ℕ) → v < g.nodes → at (pos 0) plan.supply.items v ≡ bounds.supply v
  pub spans : (k : ℕ) → k < g.arcs
      → IsSpan (bounds.lower k) (bounds.upper k) (at 0 plan.caps.items k)
  pub excess : IsExcess g bounds (at (pos 0) plan.excess.items)
