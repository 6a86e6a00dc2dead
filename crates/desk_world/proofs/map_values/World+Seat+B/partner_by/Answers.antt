use Rattle.std.proofs.Common.{ap, sym, ◌∙◌, Some}
use Rattle.desk_seats.specs.contracts.seat.SeatObserver.TheImpl.{watch-value}
use Rattle.desk_world.proofs.NumberedPartners.{arc_place, none_known, partner_known}
use Rattle.desk_world.proofs.map_values.World+Seat+B.partner_by.Goals as goal

pub value-row-requires : goal.value-row-requires
value-row-requires g c =
    let w = (watch-value g.row.B g.B.Observer g.B.Observer-dict g.B.Destruct-dict).it in
    arc_place w c.args.self.now c.args.map c.requires.map c.requires.in_step

pub name-requires : goal.name-requires
name-requires g c =
    let w = (watch-value g.row.B g.B.Observer g.B.Observer-dict g.B.Destruct-dict).it in
    arc_place w c.args.self.now c.args.map c.requires.map c.requires.in_step

pub returns-in_err-place : goal.returns-in_err-place
returns-in_err-place g c =
    let w = (watch-value g.row.B g.B.Observer g.B.Observer-dict g.B.Destruct-dict).it in
    c.from_residual.ensures
    ∙ none_known w c.args.self.now c.args.map c.value-row.result.now c.name.result.now
    c.name.ensures c.value-row.ensures c.requires.in_step c.in_err-place.ensures.place

pub returns-then-not-are_alike : goal.returns-then-not-are_alike
returns-then-not-are_alike g c =
    let w = (watch-value g.row.B g.B.Observer g.B.Observer-dict g.B.Destruct-dict).it in
    partner_known w c.args.self.now c.args.map c.value-row.result.now c.name.result.now
    c.name.ensures c.value-row.ensures c.in_ok-place.place c.value.result.now _ c.requires.in_step
    c.in_ok-place.ensures.place c.value.ensures
    (sym c.are_alike.ensures ∙ c.if-not-are_alike.true)

pub returns : goal.returns
returns g c =
    let w = (watch-value g.row.B g.B.Observer g.B.Observer-dict g.B.Destruct-dict).it in
    ap Some c.in-Ok.ensures.1
    ∙ partner_known w c.args.self.now c.args.map c.value-row.result.now c.name.result.now
    c.name.ensures c.value-row.ensures c.in_ok-place.place c.value.result.now _ c.requires.in_step
    c.in_ok-place.ensures.place c.value.ensures
    (sym c.are_alike.ensures ∙ c.if-not-are_alike.false)
