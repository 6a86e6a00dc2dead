-- Cheapest flows, cycles that leave none, and flows that are basic.
use Rattle.std.specs.Prelude.{◌≡◌, ℕ, ◌<◌, ℤ, pos, ◌+ℤ◌, ◌-ℤ◌, ◌*ℤ◌, ◌≤ℤ◌, ◌<ℤ◌, List, length, None}
use Rattle.std.specs.Prelude.{All}
use Rattle.plain_certificates.specs.Numbered.{Numbered, sum_to}
use Rattle.plain_certificates.specs.Walks.{along, IsCycle, Pace, IsTrail, arcs_of, Differ}
use Rattle.plain_certificates.specs.Feasible.{Bounds, IsBelow, IsFeasible}

-- the cost of each unit times the flow, over all arcs
abbrev pub cost_of : Numbered → (ℕ → ℤ) → (ℕ → ℤ) → ℤ
cost_of g cost flow = sum_to g.arcs (λ arc. cost arc *ℤ flow arc)

-- the cost of the arc seen from the potentials of its ends
abbrev pub reduced_cost : Numbered → (ℕ → ℤ) → (ℕ → ℤ) → ℕ → ℤ
reduced_cost g cost pi arc = (cost arc +ℤ pi (g.from arc)) -ℤ pi (g.to arc)

-- a feasible flow, and potentials by which no arc that can take more flow is cheap, and none that
-- can do with less is dear
pub record IsOptimal (g : Numbered) (bounds : Bounds) (cost flow pi : ℕ → ℤ) (total : ℤ)
    : Type 0 where
  pub feasible : IsFeasible g bounds flow
  pub total_is : total ≡ cost_of g cost flow
  pub first_is_0 : 0 < g.nodes → pi 0 ≡ pos 0
  pub no_gain : (arc : ℕ) → arc < g.arcs → IsBelow (flow arc) (bounds.upper arc)
      → pos 0 ≤ℤ reduced_cost g cost pi arc
  pub no_loss : (arc : ℕ) → arc < g.arcs → bounds.lower arc <ℤ flow arc
      → reduced_cost g cost pi arc ≤ℤ pos 0

-- a feasible flow, and a cycle of unbounded arcs round which more of it costs ever less
pub record IsFreeCycle (g : Numbered) (bounds : Bounds) (cost flow : ℕ → ℤ) (cycle : List ℕ)
    (total : ℤ) : Type 0 where
  pub feasible : IsFeasible g bounds flow
  pub is_cycle : IsCycle g cycle
  pub unbounded : All (λ arc. bounds.upper arc ≡ None) cycle
  pub total_is : total ≡ along cost cycle
  pub negative : total <ℤ pos 0

-- the arc is strictly between its bounds
abbrev pub IsBetween : Bounds → (ℕ → ℤ) → ℕ → Type 0
IsBetween bounds flow arc = (bounds.lower arc <ℤ flow arc) × IsBelow (flow arc) (bounds.upper arc)

-- no different arcs strictly between their bounds close up, when each may be walked either way
abbrev pub IsBasic : Numbered → Bounds → (ℕ → ℤ) → Type 0
IsBasic g bounds flow =
    (node : ℕ) (paces : List Pace) → 0 < length paces → Differ (arcs_of paces)
    → All (IsBetween bounds flow) (arcs_of paces) → IsTrail g node paces node → ⊥

-- some feasible flow costs less than this
pub record HasCheaper (g : Numbered) (bounds : Bounds) (cost : ℕ → ℤ) (limit : ℤ) : Type 0 where
  pub flow : ℕ → ℤ
  pub feasible : IsFeasible g bounds flow
  pub cheaper : cost_of g cost flow <ℤ limit
