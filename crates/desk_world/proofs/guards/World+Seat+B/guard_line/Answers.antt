use Rattle.std.proofs.Common.{sym, ap, ◌∙◌}
use Rattle.std.specs.Option.{option_copied}
use Rattle.notify_chain.specs.Seats.{seat_seen}
use Rattle.alter_graph.specs.Chains.{chains_seen}
use Rattle.desk_seats.specs.contracts.seat.SeatObserver.TheImpl.{watch-value}
use Rattle.desk_world.proofs.GuardLines.{row_leads, row_line}
use Rattle.std.proofs.lemmas.Option.{none-some}
use Rattle.desk_world.proofs.Seated.{seen_there, none_there}
use Rattle.desk_world.proofs.guards.World+Seat+B.guard_line.Goals as goal

pub unreachable-requires : goal.unreachable-requires
unreachable-requires g c =
    let w = (watch-value g.row.B g.B.Observer g.B.Observer-dict g.B.Destruct-dict).it in
    let self = c.args.self.now in
    let row = c.value-row.result.now in
    let leads = row_leads w self c.requires.in_step.seats c.args.place row c.value-row.ensures in
    none-some leads.seen
    (sym (none_there w (chains_seen w self.graph.chains) row.sort row.key.0
    (sym (ap (λ r. seat_seen w row.key.0 (option_copied r)) c.in_default.is) ∙ c.seat.ensures))
    ∙ leads.there)

pub returns : goal.returns
returns g c =
    let w = (watch-value g.row.B g.B.Observer g.B.Observer-dict g.B.Destruct-dict).it in
    let self = c.args.self.now in
    let row = c.value-row.result.now in
    let seat = c.in-Some.seat.now in
    row_line w self c.requires.in_step.seats c.args.place row c.value-row.ensures
    c.name.result.now c.name.ensures (w seat).seen
    (seen_there w (chains_seen w self.graph.chains) row.sort row.key.0 seat c.in-Some.ensures)
    c.kind.result c.kind.ensures c.readout.result c.readout.ensures c.in_ok-name.name
    (c.in_ok-name.ensures ∙ c.as_bytes.ensures) c.numbers_of.result c.numbers_of.ensures
