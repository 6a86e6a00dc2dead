use Rattle.desk_seats.specs.contracts.seat.SeatObserver.TheImpl.{watch-value}
use Rattle.plain_world.specs.Demands as demands
use Rattle.desk_world.specs.Plain.{plain_of}
use Rattle.desk_world.proofs.BoundsAsked.{maps_unmet, last_map}
use Rattle.desk_world.proofs.DemandParts.{one_met, one_not_met}
use Rattle.desk_world.proofs.asked_bounds.World+Seat+B.ask_bound_maps.Goals as goal

pub returns-in_err-ask_view : goal.returns-in_err-ask_view
returns-in_err-ask_view g c =
    let w = (watch-value g.row.B g.B.Observer g.B.Observer-dict g.B.Destruct-dict).it in
    let world = plain_of w c.args.self.now in
    let fault = c.in_err-ask_view.field-0.0 in
    maps_unmet world c.args.view.now c.args.low.now c.args.up.now c.args.cost.now
    c.args.supply.now c.args.into.now
    c.from_residual.result 0 fault
    c.from_residual.ensures.1
    (one_not_met world (demands.There demands.Views c.args.view.now) fault
    c.in_err-ask_view.ensures)

pub returns-in_err-ask_given : goal.returns-in_err-ask_given
returns-in_err-ask_given g c =
    let w = (watch-value g.row.B g.B.Observer g.B.Observer-dict g.B.Destruct-dict).it in
    let world = plain_of w c.args.self.now in
    let fault = c.in_err-ask_given.field-0.0 in
    maps_unmet world c.args.view.now c.args.low.now c.args.up.now c.args.cost.now
    c.args.supply.now c.args.into.now
    c.from_residual-in_err-ask_given.result 1 fault
    c.from_residual-in_err-ask_given.ensures.1
    (one_met world (demands.There demands.Views c.args.view.now) c.in_ok-ask_view.ensures)
    c.in_err-ask_given.ensures

pub returns-in_err-ask_given-2 : goal.returns-in_err-ask_given-2
returns-in_err-ask_given-2 g c =
    let w = (watch-value g.row.B g.B.Observer g.B.Observer-dict g.B.Destruct-dict).it in
    let world = plain_of w c.args.self.now in
    let fault = c.in_err-ask_given-2.field-0.0 in
    maps_unmet world c.args.view.now c.args.low.now c.args.up.now c.args.cost.now
    c.args.supply.now c.args.into.now
    c.from_residual-in_err-ask_given-2.result 2 fault
    c.from_residual-in_err-ask_given-2.ensures.1
    (one_met world (demands.There demands.Views c.args.view.now) c.in_ok-ask_view.ensures)
    c.in_ok-ask_given.ensures
    c.in_err-ask_given-2.ensures

pub returns-in_err-ask_given-3 : goal.returns-in_err-ask_given-3
returns-in_err-ask_given-3 g c =
    let w = (watch-value g.row.B g.B.Observer g.B.Observer-dict g.B.Destruct-dict).it in
    let world = plain_of w c.args.self.now in
    let fault = c.in_err-ask_given-3.field-0.0 in
    maps_unmet world c.args.view.now c.args.low.now c.args.up.now c.args.cost.now
    c.args.supply.now c.args.into.now
    c.from_residual-in_err-ask_given-3.result 3 fault
    c.from_residual-in_err-ask_given-3.ensures.1
    (one_met world (demands.There demands.Views c.args.view.now) c.in_ok-ask_view.ensures)
    c.in_ok-ask_given.ensures c.in_ok-ask_given-2.ensures
    c.in_err-ask_given-3.ensures

pub returns-in_err-ask_given-4 : goal.returns-in_err-ask_given-4
returns-in_err-ask_given-4 g c =
    let w = (watch-value g.row.B g.B.Observer g.B.Observer-dict g.B.Destruct-dict).it in
    let world = plain_of w c.args.self.now in
    let fault = c.in_err-ask_given-4.field-0.0 in
    maps_unmet world c.args.view.now c.args.low.now c.args.up.now c.args.cost.now
    c.args.supply.now c.args.into.now
    c.from_residual-in_err-ask_given-4.result 4 fault
    c.from_residual-in_err-ask_given-4.ensures.1
    (one_met world (demands.There demands.Views c.args.view.now) c.in_ok-ask_view.ensures)
    c.in_ok-ask_given.ensures c.in_ok-ask_given-2.ensures c.in_ok-ask_given-3.ensures
    c.in_err-ask_given-4.ensures

pub returns-in_err-ask_given-5 : goal.returns-in_err-ask_given-5
returns-in_err-ask_given-5 g c =
    let w = (watch-value g.row.B g.B.Observer g.B.Observer-dict g.B.Destruct-dict).it in
    let world = plain_of w c.args.self.now in
    let fault = c.in_err-ask_given-5.field-0.0 in
    maps_unmet world c.args.view.now c.args.low.now c.args.up.now c.args.cost.now
    c.args.supply.now c.args.into.now
    c.from_residual-in_err-ask_given-5.result 5 fault
    c.from_residual-in_err-ask_given-5.ensures.1
    (one_met world (demands.There demands.Views c.args.view.now) c.in_ok-ask_view.ensures)
    c.in_ok-ask_given.ensures c.in_ok-ask_given-2.ensures c.in_ok-ask_given-3.ensures
    c.in_ok-ask_given-4.ensures
    c.in_err-ask_given-5.ensures

pub returns-in_err-ask_given_type : goal.returns-in_err-ask_given_type
returns-in_err-ask_given_type g c =
    let w = (watch-value g.row.B g.B.Observer g.B.Observer-dict g.B.Destruct-dict).it in
    let world = plain_of w c.args.self.now in
    let fault = c.in_err-ask_given_type.field-0.0 in
    maps_unmet world c.args.view.now c.args.low.now c.args.up.now c.args.cost.now
    c.args.supply.now c.args.into.now
    c.from_residual-in_err-ask_given_type.result 6 fault
    c.from_residual-in_err-ask_given_type.ensures.1
    (one_met world (demands.There demands.Views c.args.view.now) c.in_ok-ask_view.ensures)
    c.in_ok-ask_given.ensures c.in_ok-ask_given-2.ensures c.in_ok-ask_given-3.ensures
    c.in_ok-ask_given-4.ensures c.in_ok-ask_given-5.ensures
    c.in_err-ask_given_type.ensures

pub returns-in_err-ask_given_type-2 : goal.returns-in_err-ask_given_type-2
returns-in_err-ask_given_type-2 g c =
    let w = (watch-value g.row.B g.B.Observer g.B.Observer-dict g.B.Destruct-dict).it in
    let world = plain_of w c.args.self.now in
    let fault = c.in_err-ask_given_type-2.field-0.0 in
    maps_unmet world c.args.view.now c.args.low.now c.args.up.now c.args.cost.now
    c.args.supply.now c.args.into.now
    c.from_residual-in_err-ask_given_type-2.result 7 fault
    c.from_residual-in_err-ask_given_type-2.ensures.1
    (one_met world (demands.There demands.Views c.args.view.now) c.in_ok-ask_view.ensures)
    c.in_ok-ask_given.ensures c.in_ok-ask_given-2.ensures c.in_ok-ask_given-3.ensures
    c.in_ok-ask_given-4.ensures c.in_ok-ask_given-5.ensures c.in_ok-ask_given_type.ensures
    c.in_err-ask_given_type-2.ensures

pub returns-in_err-ask_given_type-3 : goal.returns-in_err-ask_given_type-3
returns-in_err-ask_given_type-3 g c =
    let w = (watch-value g.row.B g.B.Observer g.B.Observer-dict g.B.Destruct-dict).it in
    let world = plain_of w c.args.self.now in
    let fault = c.in_err-ask_given_type-3.field-0.0 in
    maps_unmet world c.args.view.now c.args.low.now c.args.up.now c.args.cost.now
    c.args.supply.now c.args.into.now
    c.from_residual-in_err-ask_given_type-3.result 8 fault
    c.from_residual-in_err-ask_given_type-3.ensures.1
    (one_met world (demands.There demands.Views c.args.view.now) c.in_ok-ask_view.ensures)
    c.in_ok-ask_given.ensures c.in_ok-ask_given-2.ensures c.in_ok-ask_given-3.ensures
    c.in_ok-ask_given-4.ensures c.in_ok-ask_given-5.ensures c.in_ok-ask_given_type.ensures
    c.in_ok-ask_given_type-2.ensures
    c.in_err-ask_given_type-3.ensures

pub returns-in_err-ask_given_type-4 : goal.returns-in_err-ask_given_type-4
returns-in_err-ask_given_type-4 g c =
    let w = (watch-value g.row.B g.B.Observer g.B.Observer-dict g.B.Destruct-dict).it in
    let world = plain_of w c.args.self.now in
    let fault = c.in_err-ask_given_type-4.field-0.0 in
    maps_unmet world c.args.view.now c.args.low.now c.args.up.now c.args.cost.now
    c.args.supply.now c.args.into.now
    c.from_residual-in_err-ask_given_type-4.result 9 fault
    c.from_residual-in_err-ask_given_type-4.ensures.1
    (one_met world (demands.There demands.Views c.args.view.now) c.in_ok-ask_view.ensures)
    c.in_ok-ask_given.ensures c.in_ok-ask_given-2.ensures c.in_ok-ask_given-3.ensures
    c.in_ok-ask_given-4.ensures c.in_ok-ask_given-5.ensures c.in_ok-ask_given_type.ensures
    c.in_ok-ask_given_type-2.ensures c.in_ok-ask_given_type-3.ensures
    c.in_err-ask_given_type-4.ensures

pub returns : goal.returns
returns g c =
    let w = (watch-value g.row.B g.B.Observer g.B.Observer-dict g.B.Destruct-dict).it in
    let world = plain_of w c.args.self.now in
    last_map world c.args.view.now c.args.low.now c.args.up.now c.args.cost.now
    c.args.supply.now c.args.into.now
    c.ask_given_flow.result
    (one_met world (demands.There demands.Views c.args.view.now) c.in_ok-ask_view.ensures)
    c.in_ok-ask_given.ensures c.in_ok-ask_given-2.ensures c.in_ok-ask_given-3.ensures
    c.in_ok-ask_given-4.ensures c.in_ok-ask_given-5.ensures c.in_ok-ask_given_type.ensures
    c.in_ok-ask_given_type-2.ensures c.in_ok-ask_given_type-3.ensures
    c.in_ok-ask_given_type-4.ensures
    c.ask_given_flow.ensures
