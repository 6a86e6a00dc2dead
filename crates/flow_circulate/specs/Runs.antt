-- What the engine leaves of a task.
use Rattle.std.specs.Prelude.{◌≡◌, ℕ, ◌<◌, pos}
use Rattle.plain_certificates.specs.Numbered.{Numbered}
use Rattle.plain_certificates.specs.Tables.{at}
use Rattle.flow_loads.specs.declared.loads.Load.{Load}
use Rattle.flow_loads.specs.Loads.{HasSettled, task_in}
use Rattle.task_bounds.specs.declared.plan.Plan.{Plan}
use Rattle.flow_circulate.specs.Parts.{IsFirst}

-- the engine began with what each node is to send, or to take, and nothing more can be moved
pub record HasRun (g : Numbered) (plan : Plan) (ended : Load) : Type 0 where
  pub begun : Load
  pub first : IsFirst g.nodes g.arcs (at (pos 0) plan.excess.items) begun
  pub settled : HasSettled (task_in g (at 0 plan.caps.items)) begun ended

-- no node has anything left over, or wants anything still
pub record IsMet (g : Numbered) (ended : Load) : Type 0 where
  pub none_left : (v : ℕ) → v < g.nodes → at 0 ended.excess.items v ≡ 0
  pub none_wanted : (v : ℕ) → v < g.nodes → at 0 ended.want.items v ≡ 0
