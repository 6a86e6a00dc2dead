use Rattle.std.proofs.Common.{sym, ap, ◌∙◌}
use Rattle.std.specs.Option.{option_copied}
use Rattle.notify_chain.specs.Seats.{seat_seen}
use Rattle.desk_seats.specs.contracts.seat.SeatObserver.TheImpl.{watch-value}
use Rattle.desk_world.specs.Claims as claims
use Rattle.desk_world.proofs.SeatWrites.{no_seat, seat_plays, has_bool, bool_told}
use Rattle.desk_world.proofs.seat_writes.bool_at.Goals as goal

pub unreachable-requires : goal.unreachable-requires
unreachable-requires g c =
    let w = (watch-value g.row.B g.B.Observer g.B.Observer-dict g.B.Destruct-dict).it in
    let key = c.args.key.0 in
    no_seat w c.args.graph.now c.requires.in_step c.args.sort key claims.Bools c.requires.there
    (sym (ap (λ r. seat_seen w key (option_copied r)) c.in-None.is) ∙ c.seat.ensures)

pub bool-requires-clause-form : goal.bool-requires-clause-form
bool-requires-clause-form g c =
    let w = (watch-value g.row.B g.B.Observer g.B.Observer-dict g.B.Destruct-dict).it in
    let key = c.args.key.0 in
    (seat_plays w c.args.graph.now c.requires.in_step c.args.sort key c.in-Some.seat.now
    (sym (ap (λ r. seat_seen w key (option_copied r)) c.in-Some.is) ∙ c.seat.ensures)
    claims.Bools c.requires.there).form

pub bool-requires-clause-live : goal.bool-requires-clause-live
bool-requires-clause-live g c =
    let w = (watch-value g.row.B g.B.Observer g.B.Observer-dict g.B.Destruct-dict).it in
    let key = c.args.key.0 in
    has_bool w c.args.graph.now c.requires.in_step c.args.sort key c.in-Some.seat.now
    (sym (ap (λ r. seat_seen w key (option_copied r)) c.in-Some.is) ∙ c.seat.ensures)
    c.args.id c.requires.there c.requires.live

pub returns : goal.returns
returns g c =
    let w = (watch-value g.row.B g.B.Observer g.B.Observer-dict g.B.Destruct-dict).it in
    let key = c.args.key.0 in
    bool_told w c.args.graph.now c.requires.in_step c.args.sort key c.in-Some.seat.now
    (sym (ap (λ r. seat_seen w key (option_copied r)) c.in-Some.is) ∙ c.seat.ensures)
    c.args.id c.bool.result c.bool.ensures
