-- What a query of a largest flow reads.
use Rattle.std.specs.Prelude.{◌≡◌, ◌≢◌, ◌<◌, ◌≤ℤ◌, pos, All}
use Rattle.plain_world.specs.Queries.{graph, number_of}
use Rattle.plain_world.specs.Tables.{Name}
use Rattle.plain_world.specs.World.{World}
use Rattle.task_bounds.specs.Given.{IsValue}
use Rattle.desk_world.specs.AskedViews.{Asks, arc_values}
use Rattle.desk_world.specs.declared.asked_flows.AskedFlow.{AskedFlow}

-- the view by number, the capacities of its arcs, none of which is below 0, and the numbers of two
-- different nodes
pub record AsksFlow (world : World) (view cap s t : Name) (flow : AskedFlow) : Type 0 where
  pub asks : Asks world flow.asked
  pub view_is : flow.asked.view.now ≡ view
  pub caps : flow.caps.items ≡ arc_values world view cap
  pub small : All IsValue flow.caps.items
  pub least : All (λ x. pos 0 ≤ℤ x) flow.caps.items
  pub source_is : flow.source ≡ number_of world view s
  pub target_is : flow.target ≡ number_of world view t
  pub source_inside : flow.source < (graph world view).nodes
  pub target_inside : flow.target < (graph world view).nodes
  pub apart : flow.source ≢ flow.target
