-- What the answers to a task of cheapest flows show.
use Rattle.std.specs.Prelude.{◌≡◌, ℕ, ◌<◌, ◌≤◌, ◌^◌, false, ℤ, pos, ◌<ℤ◌, List, length, All}
use Rattle.static_digraph.specs.declared.answers.Barrier.{Barrier}
use Rattle.static_digraph.specs.declared.answers.CostAnswer.{CostAnswer}
use Rattle.static_digraph.specs.declared.answers.CostAnswer.TheVariants as answers
use Rattle.plain_certificates.specs.Numbered.{Numbered}
use Rattle.plain_certificates.specs.Feasible.{Bounds, IsBarrier}
use Rattle.plain_certificates.specs.Cheapest.{IsOptimal, IsFreeCycle}
use Rattle.plain_certificates.specs.Tables.{at}
use Rattle.plain_certificates.specs.Walks.{IsCycle, along}

-- a value for each arc and each node: a flow of least cost with its potentials
pub record IsCheapest (g : Numbered) (bounds : Bounds) (cost : ℕ → ℤ) (flow pi : List ℤ)
    (total : ℤ) : Type 0 where
  pub flow_all : length flow ≡ g.arcs
  pub pi_all : length pi ≡ g.nodes
  pub optimal : IsOptimal g bounds cost (at (pos 0) flow) (at (pos 0) pi) total

-- a set of nodes, with a value for each, that leaves no feasible flow
abbrev pub ShowsNoFlow : Numbered → Bounds → Barrier → Type 0
ShowsNoFlow g bounds b =
    (length b.nodes ≡ g.nodes) × IsBarrier g bounds b.over (at false b.nodes) b.supply b.limit

-- a flow of least cost; a set of nodes that leaves no feasible flow; or a feasible flow, and a
-- cycle of arcs without bounds round which more costs ever less
abbrev pub Shows : Numbered → Bounds → (ℕ → ℤ) → CostAnswer → Type 0
Shows g bounds cost (answers.Optimal flow pi total) = IsCheapest g bounds cost flow pi total
Shows g bounds cost (answers.Barrier b) = ShowsNoFlow g bounds b
Shows g bounds cost (answers.FreeCycle flow cycle total) =
    (length flow ≡ g.arcs) × IsFreeCycle g bounds cost (at (pos 0) flow) cycle total

-- a cycle of arcs with much room each, that costs less than nothing
pub record IsFree (g : Numbered) (cap : ℕ → ℕ) (cost : ℕ → ℤ) (cycle : List ℕ) : Type 0 where
  pub is_cycle : IsCycle g cycle
  pub roomy : All (λ k. (k < g.arcs) × (2 ^ 61 ≤ cap k)) cycle
  pub negative : along cost cycle <ℤ pos 0
