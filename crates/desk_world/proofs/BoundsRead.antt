-- What a query of flows within bounds reads, by the name of its view.
use Rattle.std.proofs.Common.{◌≡◌, ℕ, ℤ, List, sym, subst, refl, Option, Some, None}
use Rattle.std.specs.Prelude.{option_map, IfSome}
use Rattle.base_items.specs.declared.items.ItemSort.TheVariants.{Arc}
use Rattle.script_words.specs.declared.commands.MapType.TheVariants.{Ints}
use Rattle.plain_world.specs.Demands as demands
use Rattle.plain_world.specs.Demands.{given}
use Rattle.plain_world.specs.Queries.{graph}
use Rattle.plain_world.specs.Refusals.{breach}
use Rattle.plain_world.specs.Tables.{Name}
use Rattle.plain_world.specs.World.{World}
use Rattle.flow_replies.specs.Absent.{AreAll}
use Rattle.task_bounds.specs.Given.{AreGiven, AreOrdered, bounds_given}
use Rattle.desk_world.specs.AskedBounds.{AsksBounds, given_on_arcs, given_at_nodes}
use Rattle.desk_world.specs.AskedViews.{Asks}
use Rattle.desk_world.specs.Values.{HasType}
use Rattle.desk_world.specs.declared.asked_bounds.AskedBounds.{AskedBounds}
use Rattle.desk_world.proofs.BoundsAsked.{orders}
use Rattle.desk_world.proofs.Demanded.{fault_of}
use Rattle.desk_world.proofs.DemandParts.{given_met}
use Rattle.desk_world.proofs.FlowsTold.{takes_ints}

-- values that are given are as many as they should be
pub are_all : (count : ℕ) (values : Option (List ℤ)) → AreGiven count values → AreAll count values
are_all count None are = tt
are_all count (Some values) are = are.0

-- a map that takes a flow, where one is given, has ints
pub given_ints : (world : World) (view : Name) (map : Option Name)
    → fault_of world (given (demands.TakesFlow view) map) ≡ None
    → IfSome map (λ name. HasType world Arc name Ints)
given_ints world view None takes = tt
given_ints world view (Some name) takes =
    takes_ints world view name (given_met world (demands.TakesFlow view) (Some name) takes)

module _ (world : World) (view : Name) (low up cost supply : Option Name) (read : AskedBounds)
    (asks : Asks world read.asked) (same : read.asked.view.now ≡ view) where
  abbrev own : Name
  own = read.asked.view.now

  -- from what is read by the name that the view itself has
  pub bounds_read : option_map (λ list. list.items) read.lower ≡ given_on_arcs world own low
      → option_map (λ list. list.items) read.upper ≡ given_on_arcs world own up
      → option_map (λ list. list.items) read.cost ≡ given_on_arcs world own cost
      → option_map (λ list. list.items) read.supply ≡ given_at_nodes world own supply
      → AreGiven (graph world own).arcs (option_map (λ list. list.items) read.lower)
      → AreGiven (graph world own).arcs (option_map (λ list. list.items) read.upper)
      → AreGiven (graph world own).arcs (option_map (λ list. list.items) read.cost)
      → AreGiven (graph world own).nodes (option_map (λ list. list.items) read.supply)
      → breach world (demands.InOrder own low up) ≡ None
      → AsksBounds world view low up cost supply read
  bounds_read lower upper costs supplies lower_small upper_small cost_small supply_small order =
      subst (λ v. AsksBounds world v low up cost supply read) same (record {
        asks = asks;
        view_is = refl;
        lower = lower;
        upper = upper;
        cost_is = costs;
        supply_is = supplies;
        lower_small = subst (AreGiven (graph world own).arcs) lower lower_small;
        upper_small = subst (AreGiven (graph world own).arcs) upper upper_small;
        cost_small = subst (AreGiven (graph world own).arcs) costs cost_small;
        supply_small = subst (AreGiven (graph world own).nodes) supplies supply_small;
        ordered = subst (λ g. AreOrdered g (bounds_given (given_on_arcs world own low)
            (given_on_arcs world own up) (given_at_nodes world own supply)))
            (sym asks.numbers.graph)
            (orders world own low up order (given_at_nodes world own supply));
      })
