-- What a query of flows within bounds reads.
use Rattle.std.specs.Prelude.{◌≡◌, ℤ, List, [], ◌∷◌, ◌++◌, Option, option_map}
use Rattle.base_items.specs.declared.items.ItemSort.TheVariants.{Node, Arc}
use Rattle.script_words.specs.declared.commands.MapType.TheVariants as types
use Rattle.plain_world.specs.Demands.{Demand, There, HasType, TakesFlow, Views, Maps, given, each}
use Rattle.plain_world.specs.Queries.{graph}
use Rattle.plain_world.specs.Tables.{Name}
use Rattle.plain_world.specs.World.{World}
use Rattle.static_digraph.specs.Fixed.{graph_of}
use Rattle.task_bounds.specs.Given.{AreGiven, AreOrdered, bounds_given}
use Rattle.desk_world.specs.AskedViews.{Asks, arc_values, node_values}
use Rattle.desk_world.specs.declared.asked_bounds.AskedBounds.{AskedBounds}

-- the demands that come before the view is numbered
abbrev pub map_demands : Name → (low up cost supply into : Option Name) → List Demand
map_demands view low up cost supply into =
    There Views view ∷ each (There (Maps Arc)) (low ∷ up ∷ cost ∷ [])
    ++ given (There (Maps Node)) supply ++ given (There (Maps Arc)) into
    ++ each (HasType Arc types.Ints) (low ∷ up ∷ cost ∷ [])
    ++ given (HasType Node types.Ints) supply ++ given (TakesFlow view) into

-- the ints of a map that may be given, on the arcs of a view and at its nodes
abbrev pub given_on_arcs : World → Name → Option Name → Option (List ℤ)
given_on_arcs world view map = option_map (arc_values world view) map

abbrev pub given_at_nodes : World → Name → Option Name → Option (List ℤ)
given_at_nodes world view map = option_map (node_values world view) map

-- the view by number, and the values of the maps that are given, which are in range; no lower bound
-- is above the upper one
pub record AsksBounds (world : World) (view : Name) (low up cost supply : Option Name)
    (read : AskedBounds) : Type 0 where
  pub asks : Asks world read.asked
  pub view_is : read.asked.view.now ≡ view
  pub lower : option_map (λ list. list.items) read.lower ≡ given_on_arcs world view low
  pub upper : option_map (λ list. list.items) read.upper ≡ given_on_arcs world view up
  pub cost_is : option_map (λ list. list.items) read.cost ≡ given_on_arcs world view cost
  pub supply_is : option_map (λ list. list.items) read.supply ≡ given_at_nodes world view supply
  pub lower_small : AreGiven (graph world view).arcs (given_on_arcs world view low)
  pub upper_small : AreGiven (graph world view).arcs (given_on_arcs world view up)
  pub cost_small : AreGiven (graph world view).arcs (given_on_arcs world view cost)
  pub supply_small : AreGiven (graph world view).nodes (given_at_nodes world view supply)
  pub ordered : AreOrdered (graph_of read.asked.fixed) (bounds_given
      (given_on_arcs world view low) (given_on_arcs world view up)
      (given_at_nodes world view supply))
