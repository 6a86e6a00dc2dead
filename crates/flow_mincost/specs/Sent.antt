-- Flows above the lower bounds of a task.
use Rattle.std.specs.Prelude.{◌≡◌, ℕ, ◌<◌, ◌^◌, ℤ, pos, neg_ℤ, List}
use Rattle.plain_certificates.specs.Numbered.{Numbered, net, sum_to}
use Rattle.plain_certificates.specs.Rooms.{as_flow}
use Rattle.plain_certificates.specs.Tables.{at}
use Rattle.task_bounds.specs.declared.plan.Plan.{Plan}
use Rattle.flow_mincost.specs.Rooms.{IsWithin}

-- the flow is within the capacities, and each node sends what it has to
pub record IsSent (g : Numbered) (plan : Plan) (sent : List ℕ) : Type 0 where
  pub within : IsWithin g plan.caps.items sent
  pub balance : (v : ℕ) → v < g.nodes
      → net g (as_flow (at 0 sent)) v ≡ at (pos 0) plan.excess.items v

-- no flow within the capacities costs less
abbrev pub floor_of : Numbered → ℤ
floor_of g = sum_to g.arcs (λ _. neg_ℤ (pos (2 ^ 99)))
