use Rattle.std.proofs.Common.{ap, sym, ◌∙◌}
use Rattle.std.specs.Option.{option_copied}
use Rattle.notify_chain.specs.Seats.{seat_seen}
use Rattle.desk_seats.specs.contracts.seat.SeatObserver.TheImpl.{watch-value}
use Rattle.desk_world.proofs.TiesFound.{ties_found, ties_there, item_tied, tied_live}
use Rattle.desk_world.proofs.attributes.World+Seat+B.tied_item.Goals as goal

pub unreachable-requires : goal.unreachable-requires
unreachable-requires g c =
    let w = (watch-value g.row.B g.B.Observer g.B.Observer-dict g.B.Destruct-dict).it in
    let items = c.tables.result.now in
    ties_there w c.args.self.now c.args.sort items c.requires c.tables.ensures
    (sym (ap (λ r. seat_seen w items.ties.0 (option_copied r)) c.in-None.is) ∙ c.seat.ensures)

pub tie-requires : goal.tie-requires
tie-requires g c =
    let w = (watch-value g.row.B g.B.Observer g.B.Observer-dict g.B.Destruct-dict).it in
    let items = c.tables.result.now in
    (ties_found w c.args.self.now c.args.sort items c.in-Some.seat.now c.requires c.tables.ensures
    (sym (ap (λ r. seat_seen w items.ties.0 (option_copied r)) c.in-Some.is)
    ∙ c.seat.ensures)).plays.form

pub returns-clause-item : goal.returns-clause-item
returns-clause-item g c =
    let w = (watch-value g.row.B g.B.Observer g.B.Observer-dict g.B.Destruct-dict).it in
    let self = c.args.self.now in
    let items = c.tables.result.now in
    let seat = c.in-Some.seat.now in
    let has = ties_found w self c.args.sort items seat c.requires c.tables.ensures
    (sym (ap (λ r. seat_seen w items.ties.0 (option_copied r)) c.in-Some.is)
    ∙ c.seat.ensures) in
    item_tied w self c.args.sort seat has c.args.number c.tie.result c.tie.ensures

pub returns-clause-live : goal.returns-clause-live
returns-clause-live g c =
    let w = (watch-value g.row.B g.B.Observer g.B.Observer-dict g.B.Destruct-dict).it in
    let self = c.args.self.now in
    let items = c.tables.result.now in
    let seat = c.in-Some.seat.now in
    let has = ties_found w self c.args.sort items seat c.requires c.tables.ensures
    (sym (ap (λ r. seat_seen w items.ties.0 (option_copied r)) c.in-Some.is)
    ∙ c.seat.ensures) in
    tied_live w self c.args.sort seat has c.requires c.args.number c.tie.result c.tie.ensures
