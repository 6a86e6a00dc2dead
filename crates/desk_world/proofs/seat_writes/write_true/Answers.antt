use Rattle.std.proofs.Common.{sym, ap, subst, ◌∙◌}
use Rattle.std.specs.Prelude.{IfSome}
use Rattle.std.specs.Option.{option_copied_mut}
use Rattle.notify_chain.specs.Seats.{seat_seen}
use Rattle.alter_graph.specs.Lending.{MayWrite}
use Rattle.desk_seats.specs.contracts.seat.SeatObserver.TheImpl.{watch-value}
use Rattle.desk_world.specs.Claims as claims
use Rattle.desk_world.specs.Indexes.{trues_with}
use Rattle.desk_world.proofs.SeatWrites.{no_seat, seat_plays, has_true, puts_now, now_in_step}
use Rattle.desk_world.proofs.SeatWrites.{no_half_index}
use Rattle.desk_world.proofs.seat_writes.write_true.Goals as goal

pub unreachable-requires : goal.unreachable-requires
unreachable-requires g c =
    let w = (watch-value g.row.B g.B.Observer g.B.Observer-dict g.B.Destruct-dict).it in
    let key = c.args.key.0 in
    no_seat w c.args.graph.now c.requires.in_step c.args.sort key claims.Trues
    c.requires.there
    (sym (ap (λ r. seat_seen w key (option_copied_mut r)) c.in-None.is) ∙ c.seat_mut.ensures.value)

pub write_true-requires-clause-form : goal.write_true-requires-clause-form
write_true-requires-clause-form g c =
    let w = (watch-value g.row.B g.B.Observer g.B.Observer-dict g.B.Destruct-dict).it in
    let key = c.args.key.0 in
    (seat_plays w c.args.graph.now c.requires.in_step c.args.sort key c.in-Some.seat.now
    (sym (ap (λ r. seat_seen w key (option_copied_mut r)) c.in-Some.is) ∙ c.seat_mut.ensures.value)
    claims.Trues c.requires.there).form

pub write_true-requires-clause-live : goal.write_true-requires-clause-live
write_true-requires-clause-live g c =
    let w = (watch-value g.row.B g.B.Observer g.B.Observer-dict g.B.Destruct-dict).it in
    let key = c.args.key.0 in
    has_true w c.args.graph.now c.requires.in_step c.args.sort key c.in-Some.seat.now
    (sym (ap (λ r. seat_seen w key (option_copied_mut r)) c.in-Some.is) ∙ c.seat_mut.ensures.value)
    c.args.id c.requires.there c.requires.live

pub returns-clause-puts : goal.returns-clause-puts
returns-clause-puts g c =
    let w = (watch-value g.row.B g.B.Observer g.B.Observer-dict g.B.Destruct-dict).it in
    let key = c.args.key.0 in
    let may = subst (λ r. IfSome r (λ o. MayWrite w c.args.sort key c.args.graph.now o.now))
    c.in-Some.is c.seat_mut.ensures.writes in
    puts_now w c.args.graph.now c.requires.in_step c.args.sort key c.in-Some.seat.now
    (sym (ap (λ r. seat_seen w key (option_copied_mut r)) c.in-Some.is) ∙ c.seat_mut.ensures.value)
    c.write_true.new.self (trues_with c.args.id c.args.value) may c.write_true.ensures.seen

pub returns-clause-in_step : goal.returns-clause-in_step
returns-clause-in_step g c =
    let w = (watch-value g.row.B g.B.Observer g.B.Observer-dict g.B.Destruct-dict).it in
    let key = c.args.key.0 in
    let seat = c.in-Some.seat.now in
    let at = sym (ap (λ r. seat_seen w key (option_copied_mut r)) c.in-Some.is)
    ∙ c.seat_mut.ensures.value in
    let may = subst (λ r. IfSome r (λ o. MayWrite w c.args.sort key c.args.graph.now o.now))
    c.in-Some.is c.seat_mut.ensures.writes in
    now_in_step w c.args.graph.now c.requires.in_step c.args.sort key seat at
    c.write_true.new.self (trues_with c.args.id c.args.value) may c.write_true.ensures.seen
    c.write_true.ensures.fits
    (no_half_index (w seat).seen (seat_plays w c.args.graph.now c.requires.in_step
    c.args.sort key seat at claims.Trues c.requires.there))
