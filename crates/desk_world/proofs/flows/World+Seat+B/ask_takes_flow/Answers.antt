use Rattle.std.proofs.Common.{true, false, sym, ap, subst, ◌∙◌}
use Rattle.plain_world.specs.Demands as demands
use Rattle.view_tower.specs.Layers.{tower_of}
use Rattle.desk_seats.specs.contracts.seat.SeatObserver.TheImpl.{watch-value}
use Rattle.desk_world.specs.Faults.{Is, Meets}
use Rattle.desk_world.specs.Plain.{plain_of}
use Rattle.desk_world.proofs.FlowsTold.{no_ints, by_single}
use Rattle.desk_world.proofs.Handed.{handed_on}
use Rattle.desk_world.proofs.flows.World+Seat+B.ask_takes_flow.Goals as goal

pub returns-in_err-ask_type : goal.returns-in_err-ask_type
returns-in_err-ask_type g c =
    let w = (watch-value g.row.B g.B.Observer g.B.Observer-dict g.B.Destruct-dict).it in
    let world = plain_of w c.args.self.now in
    let view = c.args.view.now in
    let map = c.args.map.now in
    let fault = c.in_err-ask_type.field-0.0 in
    handed_on (Meets world (demands.TakesFlow view map)) c.from_residual.result fault
    c.from_residual.ensures.1 (no_ints world view map fault c.in_err-ask_type.ensures)

pub returns-then-shows_single : goal.returns-then-shows_single
returns-then-shows_single g c =
    let w = (watch-value g.row.B g.B.Observer g.B.Observer-dict g.B.Destruct-dict).it in
    let world = plain_of w c.args.self.now in
    by_single world c.args.view.now c.args.map.now c.in_ok-ask_type.ensures
    (tower_of c.as_slice.result.now)
    (ap tower_of c.as_slice.ensures.value ∙ c.in_ok-layers.ensures.layers) true
    (sym c.if-shows_single.true ∙ c.shows_single.ensures)

pub returns : goal.returns
returns g c =
    let w = (watch-value g.row.B g.B.Observer g.B.Observer-dict g.B.Destruct-dict).it in
    let world = plain_of w c.args.self.now in
    subst (λ o. Is o c.wrong_type.result)
    (sym (by_single world c.args.view.now c.args.map.now c.in_ok-ask_type.ensures
    (tower_of c.as_slice.result.now)
    (ap tower_of c.as_slice.ensures.value ∙ c.in_ok-layers.ensures.layers) false
    (sym c.if-shows_single.false ∙ c.shows_single.ensures))) c.wrong_type.ensures
