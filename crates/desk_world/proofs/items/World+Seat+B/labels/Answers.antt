use Rattle.std.proofs.Common.{ap, sym, ◌∙◌}
use Rattle.std.specs.Option.{option_copied}
use Rattle.notify_chain.specs.Seats.{seat_seen}
use Rattle.desk_seats.specs.contracts.seat.SeatObserver.TheImpl.{watch-value}
use Rattle.desk_world.proofs.Labelled.{labels_found, labels_there}
use Rattle.desk_world.proofs.items.World+Seat+B.labels.Goals as goal

pub unreachable-requires : goal.unreachable-requires
unreachable-requires g c =
    let w = (watch-value g.row.B g.B.Observer g.B.Observer-dict g.B.Destruct-dict).it in
    let items = c.tables.result.now in
    labels_there w c.args.self.now c.args.sort items c.requires.seats c.tables.ensures
    (sym (ap (λ r. seat_seen w items.labels.0 (option_copied r)) c.in-None.is) ∙ c.seat.ensures)

pub returns-clause-form : goal.returns-clause-form
returns-clause-form g c =
    let w = (watch-value g.row.B g.B.Observer g.B.Observer-dict g.B.Destruct-dict).it in
    let items = c.tables.result.now in
    (labels_found w c.args.self.now c.args.sort items c.in-Some.seat.now c.requires.seats
    c.tables.ensures
    (sym (ap (λ r. seat_seen w items.labels.0 (option_copied r)) c.in-Some.is)
    ∙ c.seat.ensures)).plays.form

pub returns-clause-seen : goal.returns-clause-seen
returns-clause-seen g c =
    let w = (watch-value g.row.B g.B.Observer g.B.Observer-dict g.B.Destruct-dict).it in
    let items = c.tables.result.now in
    (labels_found w c.args.self.now c.args.sort items c.in-Some.seat.now c.requires.seats
    c.tables.ensures
    (sym (ap (λ r. seat_seen w items.labels.0 (option_copied r)) c.in-Some.is)
    ∙ c.seat.ensures)).seen
