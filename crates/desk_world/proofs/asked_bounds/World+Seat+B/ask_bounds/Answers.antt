use Rattle.std.proofs.Common.{◌∙◌, sym, subst, refl}
use Rattle.std.specs.Prelude.{option_map}
use Rattle.base_items.specs.declared.items.ItemSort.TheVariants.{Node, Arc}
use Rattle.script_words.specs.declared.commands.MapType.TheVariants.{Ints}
use Rattle.plain_world.specs.Demands as demands
use Rattle.plain_world.specs.Queries.{graph}
use Rattle.flow_replies.specs.Absent.{AreAll}
use Rattle.desk_seats.specs.contracts.seat.SeatObserver.TheImpl.{watch-value}
use Rattle.desk_world.specs.Plain.{plain_of}
use Rattle.desk_world.proofs.BoundsAsked.{map_none, bounds_unmet, bounds_met}
use Rattle.desk_world.proofs.BoundsRead.{are_all, given_ints, bounds_read}
use Rattle.desk_world.proofs.DemandParts.{one_met, one_not_met, given_met}
use Rattle.desk_world.proofs.asked_bounds.World+Seat+B.ask_bounds.Goals as goal

pub given_arc_ints-requires : goal.given_arc_ints-requires
given_arc_ints-requires g c =
    let w = (watch-value g.row.B g.B.Observer g.B.Observer-dict g.B.Destruct-dict).it in
    let world = plain_of w c.args.self.now in
    record {
      in_step = c.requires;
      asks = c.in_ok-asked.ensures.asks;
      typed = given_met world (demands.HasType Arc Ints) c.args.low.now
          (map_none world c.args.view.now c.args.low.now c.args.up.now c.args.cost.now
          c.args.supply.now c.args.into.now 6 c.in_ok-ask_bound_maps.ensures);
    }

pub given_arc_ints-requires-2 : goal.given_arc_ints-requires-2
given_arc_ints-requires-2 g c =
    let w = (watch-value g.row.B g.B.Observer g.B.Observer-dict g.B.Destruct-dict).it in
    let world = plain_of w c.args.self.now in
    record {
      in_step = c.requires;
      asks = c.in_ok-asked.ensures.asks;
      typed = given_met world (demands.HasType Arc Ints) c.args.up.now
          (map_none world c.args.view.now c.args.low.now c.args.up.now c.args.cost.now
          c.args.supply.now c.args.into.now 7 c.in_ok-ask_bound_maps.ensures);
    }

pub given_arc_ints-requires-3 : goal.given_arc_ints-requires-3
given_arc_ints-requires-3 g c =
    let w = (watch-value g.row.B g.B.Observer g.B.Observer-dict g.B.Destruct-dict).it in
    let world = plain_of w c.args.self.now in
    record {
      in_step = c.requires;
      asks = c.in_ok-asked.ensures.asks;
      typed = given_met world (demands.HasType Arc Ints) c.args.cost.now
          (map_none world c.args.view.now c.args.low.now c.args.up.now c.args.cost.now
          c.args.supply.now c.args.into.now 8 c.in_ok-ask_bound_maps.ensures);
    }

pub given_node_ints-requires : goal.given_node_ints-requires
given_node_ints-requires g c =
    let w = (watch-value g.row.B g.B.Observer g.B.Observer-dict g.B.Destruct-dict).it in
    let world = plain_of w c.args.self.now in
    record {
      in_step = c.requires;
      asks = c.in_ok-asked.ensures.asks;
      typed = given_met world (demands.HasType Node Ints) c.args.supply.now
          (map_none world c.args.view.now c.args.low.now c.args.up.now c.args.cost.now
          c.args.supply.now c.args.into.now 9 c.in_ok-ask_bound_maps.ensures);
    }

pub ask_in_order-requires : goal.ask_in_order-requires
ask_in_order-requires g c =
    let w = (watch-value g.row.B g.B.Observer g.B.Observer-dict g.B.Destruct-dict).it in
    let world = plain_of w c.args.self.now in
    let count = (graph world c.in_ok-asked.asked.view.now).arcs in
    record {
      in_step = c.requires;
      asks = c.in_ok-asked.ensures.asks;
      lower = subst (AreAll count) (sym c.slice_given.ensures)
          (are_all count (option_map (λ list. list.items) c.in_ok-lower.lower)
          c.in_ok-lower.ensures.small);
      upper = subst (AreAll count) (sym c.slice_given-2.ensures)
          (are_all count (option_map (λ list. list.items) c.in_ok-upper.upper)
          c.in_ok-upper.ensures.small);
    }

pub returns-in_err-ask_bound_maps-clause-meets : goal.returns-in_err-ask_bound_maps-clause-meets
returns-in_err-ask_bound_maps-clause-meets g c =
    let w = (watch-value g.row.B g.B.Observer g.B.Observer-dict g.B.Destruct-dict).it in
    let world = plain_of w c.args.self.now in
    let fault = c.in_err-ask_bound_maps.field-0.0 in
    bounds_unmet world c.args.view.now c.args.low.now c.args.up.now c.args.cost.now
    c.args.supply.now c.args.into.now
    c.args.view.now refl c.from_residual.result 0 fault
    c.from_residual.ensures.1
    c.in_err-ask_bound_maps.ensures

pub returns-in_err-asked-clause-meets : goal.returns-in_err-asked-clause-meets
returns-in_err-asked-clause-meets g c =
    let w = (watch-value g.row.B g.B.Observer g.B.Observer-dict g.B.Destruct-dict).it in
    let world = plain_of w c.args.self.now in
    let fault = c.in_err-asked.field-0.0 in
    bounds_unmet world c.args.view.now c.args.low.now c.args.up.now c.args.cost.now
    c.args.supply.now c.args.into.now
    c.args.view.now refl c.from_residual-in_err-asked.result 1 fault
    c.from_residual-in_err-asked.ensures.1
    c.in_ok-ask_bound_maps.ensures
    (one_not_met world (demands.IsSmall c.args.view.now) fault c.in_err-asked.ensures.meets)

pub returns-in_err-lower-clause-meets : goal.returns-in_err-lower-clause-meets
returns-in_err-lower-clause-meets g c =
    let w = (watch-value g.row.B g.B.Observer g.B.Observer-dict g.B.Destruct-dict).it in
    let world = plain_of w c.args.self.now in
    let own = c.in_ok-asked.asked.view.now in
    let fault = c.in_err-lower.field-0.0 in
    bounds_unmet world c.args.view.now c.args.low.now c.args.up.now c.args.cost.now
    c.args.supply.now c.args.into.now
    own c.in_ok-asked.ensures.view c.from_residual-in_err-lower.result 2 fault
    c.from_residual-in_err-lower.ensures.1
    c.in_ok-ask_bound_maps.ensures
    (one_met world (demands.IsSmall c.args.view.now) c.in_ok-asked.ensures.meets)
    c.in_err-lower.ensures.meets

pub returns-in_err-upper-clause-meets : goal.returns-in_err-upper-clause-meets
returns-in_err-upper-clause-meets g c =
    let w = (watch-value g.row.B g.B.Observer g.B.Observer-dict g.B.Destruct-dict).it in
    let world = plain_of w c.args.self.now in
    let own = c.in_ok-asked.asked.view.now in
    let fault = c.in_err-upper.field-0.0 in
    bounds_unmet world c.args.view.now c.args.low.now c.args.up.now c.args.cost.now
    c.args.supply.now c.args.into.now
    own c.in_ok-asked.ensures.view c.from_residual-in_err-upper.result 3 fault
    c.from_residual-in_err-upper.ensures.1
    c.in_ok-ask_bound_maps.ensures
    (one_met world (demands.IsSmall c.args.view.now) c.in_ok-asked.ensures.meets)
    c.in_ok-lower.ensures.meets
    c.in_err-upper.ensures.meets

pub returns-in_err-cost-clause-meets : goal.returns-in_err-cost-clause-meets
returns-in_err-cost-clause-meets g c =
    let w = (watch-value g.row.B g.B.Observer g.B.Observer-dict g.B.Destruct-dict).it in
    let world = plain_of w c.args.self.now in
    let own = c.in_ok-asked.asked.view.now in
    let fault = c.in_err-cost.field-0.0 in
    bounds_unmet world c.args.view.now c.args.low.now c.args.up.now c.args.cost.now
    c.args.supply.now c.args.into.now
    own c.in_ok-asked.ensures.view c.from_residual-in_err-cost.result 4 fault
    c.from_residual-in_err-cost.ensures.1
    c.in_ok-ask_bound_maps.ensures
    (one_met world (demands.IsSmall c.args.view.now) c.in_ok-asked.ensures.meets)
    c.in_ok-lower.ensures.meets c.in_ok-upper.ensures.meets
    c.in_err-cost.ensures.meets

pub returns-in_err-supply-clause-meets : goal.returns-in_err-supply-clause-meets
returns-in_err-supply-clause-meets g c =
    let w = (watch-value g.row.B g.B.Observer g.B.Observer-dict g.B.Destruct-dict).it in
    let world = plain_of w c.args.self.now in
    let own = c.in_ok-asked.asked.view.now in
    let fault = c.in_err-supply.field-0.0 in
    bounds_unmet world c.args.view.now c.args.low.now c.args.up.now c.args.cost.now
    c.args.supply.now c.args.into.now
    own c.in_ok-asked.ensures.view c.from_residual-in_err-supply.result 5 fault
    c.from_residual-in_err-supply.ensures.1
    c.in_ok-ask_bound_maps.ensures
    (one_met world (demands.IsSmall c.args.view.now) c.in_ok-asked.ensures.meets)
    c.in_ok-lower.ensures.meets c.in_ok-upper.ensures.meets c.in_ok-cost.ensures.meets
    c.in_err-supply.ensures.meets

pub returns-in_err-ask_in_order-clause-meets : goal.returns-in_err-ask_in_order-clause-meets
returns-in_err-ask_in_order-clause-meets g c =
    let w = (watch-value g.row.B g.B.Observer g.B.Observer-dict g.B.Destruct-dict).it in
    let world = plain_of w c.args.self.now in
    let own = c.in_ok-asked.asked.view.now in
    let fault = c.in_err-ask_in_order.field-0.0 in
    bounds_unmet world c.args.view.now c.args.low.now c.args.up.now c.args.cost.now
    c.args.supply.now c.args.into.now
    own c.in_ok-asked.ensures.view c.from_residual-in_err-ask_in_order.result 6 fault
    c.from_residual-in_err-ask_in_order.ensures.1
    c.in_ok-ask_bound_maps.ensures
    (one_met world (demands.IsSmall c.args.view.now) c.in_ok-asked.ensures.meets)
    c.in_ok-lower.ensures.meets c.in_ok-upper.ensures.meets c.in_ok-cost.ensures.meets
    c.in_ok-supply.ensures.meets
    (one_not_met world (demands.InOrder own c.args.low.now c.args.up.now) fault
    (c.in_err-ask_in_order.ensures c.args.low.now c.args.up.now
    (c.slice_given.ensures ∙ c.in_ok-lower.ensures.ints)
    (c.slice_given-2.ensures ∙ c.in_ok-upper.ensures.ints)))

pub returns-clause-asks : goal.returns-clause-asks
returns-clause-asks g c =
    let w = (watch-value g.row.B g.B.Observer g.B.Observer-dict g.B.Destruct-dict).it in
    let world = plain_of w c.args.self.now in
    let asked = c.in_ok-asked.asked in
    bounds_read world c.args.view.now c.args.low.now c.args.up.now c.args.cost.now
    c.args.supply.now
    (record {
      asked = asked;
      lower = c.in_ok-lower.lower;
      upper = c.in_ok-upper.upper;
      cost = c.in_ok-cost.cost;
      supply = c.in_ok-supply.supply;
    }) c.in_ok-asked.ensures.asks c.in_ok-asked.ensures.view c.in_ok-lower.ensures.ints
    c.in_ok-upper.ensures.ints c.in_ok-cost.ensures.ints c.in_ok-supply.ensures.ints
    c.in_ok-lower.ensures.small c.in_ok-upper.ensures.small c.in_ok-cost.ensures.small
    c.in_ok-supply.ensures.small
    (c.in_ok-ask_in_order.ensures c.args.low.now c.args.up.now
    (c.slice_given.ensures ∙ c.in_ok-lower.ensures.ints)
    (c.slice_given-2.ensures ∙ c.in_ok-upper.ensures.ints))

pub returns-clause-takes : goal.returns-clause-takes
returns-clause-takes g c =
    let w = (watch-value g.row.B g.B.Observer g.B.Observer-dict g.B.Destruct-dict).it in
    let world = plain_of w c.args.self.now in
    given_ints world c.args.view.now c.args.into.now
    (map_none world c.args.view.now c.args.low.now c.args.up.now c.args.cost.now
    c.args.supply.now c.args.into.now 10 c.in_ok-ask_bound_maps.ensures)

pub returns-clause-meets : goal.returns-clause-meets
returns-clause-meets g c =
    let w = (watch-value g.row.B g.B.Observer g.B.Observer-dict g.B.Destruct-dict).it in
    let world = plain_of w c.args.self.now in
    let own = c.in_ok-asked.asked.view.now in
    bounds_met world c.args.view.now c.args.low.now c.args.up.now c.args.cost.now
    c.args.supply.now c.args.into.now
    own c.in_ok-asked.ensures.view
    c.in_ok-ask_bound_maps.ensures
    (one_met world (demands.IsSmall c.args.view.now) c.in_ok-asked.ensures.meets)
    c.in_ok-lower.ensures.meets c.in_ok-upper.ensures.meets c.in_ok-cost.ensures.meets
    c.in_ok-supply.ensures.meets
    (one_met world (demands.InOrder own c.args.low.now c.args.up.now)
    (c.in_ok-ask_in_order.ensures c.args.low.now c.args.up.now
    (c.slice_given.ensures ∙ c.in_ok-lower.ensures.ints)
    (c.slice_given-2.ensures ∙ c.in_ok-upper.ensures.ints)))
