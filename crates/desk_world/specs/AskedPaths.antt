-- What a query of ways from a node reads.
use Rattle.std.specs.Prelude.{◌≡◌, ◌<◌, All}
use Rattle.plain_world.specs.Queries.{graph, number_of}
use Rattle.plain_world.specs.Tables.{Name}
use Rattle.plain_world.specs.World.{World}
use Rattle.task_bounds.specs.Given.{IsValue}
use Rattle.desk_world.specs.AskedViews.{Asks, arc_values}
use Rattle.desk_world.specs.declared.asked_paths.AskedPaths.{AskedPaths}

-- the view by number, the lengths of its arcs, and the number of the start
pub record AsksPaths (world : World) (view length start : Name) (paths : AskedPaths) : Type 0
  where
    pub asks : Asks world paths.asked
    pub view_is : paths.asked.view.now ≡ view
    pub lengths : paths.lengths.items ≡ arc_values world view length
    pub small : All IsValue paths.lengths.items
    pub start_is : paths.start ≡ number_of world view start
    pub inside : paths.start < (graph world view).nodes
