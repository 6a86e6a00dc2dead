use Rattle.std.proofs.Common.{sym, ap, subst, ◌∙◌}
use Rattle.std.specs.Prelude.{IfSome}
use Rattle.std.specs.Option.{option_copied_mut}
use Rattle.notify_chain.specs.Seats.{seat_seen}
use Rattle.alter_graph.specs.Lending.{MayWrite}
use Rattle.desk_seats.specs.contracts.seat.SeatObserver.TheImpl.{watch-value}
use Rattle.desk_world.specs.Values.{held_with}
use Rattle.desk_world.proofs.MapsWritten.{own_role}
use Rattle.desk_world.proofs.SeatWrites.{no_seat, seat_plays, seat_has, puts_now, now_in_step}
use Rattle.desk_world.proofs.SeatWrites.{no_half_value}
use Rattle.desk_world.proofs.seat_writes.write_seat.Goals as goal

pub unreachable-requires : goal.unreachable-requires
unreachable-requires g c =
    let w = (watch-value g.row.B g.B.Observer g.B.Observer-dict g.B.Destruct-dict).it in
    let key = c.args.key.0 in
    no_seat w c.args.graph.now c.requires.in_step c.args.sort key (own_role c.args.value)
    c.requires.there
    (sym (ap (λ r. seat_seen w key (option_copied_mut r)) c.in-None.is) ∙ c.seat_mut.ensures.value)

pub write_to-requires-clause-role : goal.write_to-requires-clause-role
write_to-requires-clause-role g c =
    let w = (watch-value g.row.B g.B.Observer g.B.Observer-dict g.B.Destruct-dict).it in
    let key = c.args.key.0 in
    seat_plays w c.args.graph.now c.requires.in_step c.args.sort key c.in-Some.seat.now
    (sym (ap (λ r. seat_seen w key (option_copied_mut r)) c.in-Some.is) ∙ c.seat_mut.ensures.value)
    (own_role c.args.value) c.requires.there

pub write_to-requires-clause-live : goal.write_to-requires-clause-live
write_to-requires-clause-live g c =
    let w = (watch-value g.row.B g.B.Observer g.B.Observer-dict g.B.Destruct-dict).it in
    let key = c.args.key.0 in
    seat_has w c.args.graph.now c.requires.in_step c.args.sort key c.in-Some.seat.now
    (sym (ap (λ r. seat_seen w key (option_copied_mut r)) c.in-Some.is) ∙ c.seat_mut.ensures.value)
    c.args.value c.args.id c.requires.there c.requires.live

pub returns-clause-puts : goal.returns-clause-puts
returns-clause-puts g c =
    let w = (watch-value g.row.B g.B.Observer g.B.Observer-dict g.B.Destruct-dict).it in
    let key = c.args.key.0 in
    let may = subst (λ r. IfSome r (λ o. MayWrite w c.args.sort key c.args.graph.now o.now))
    c.in-Some.is c.seat_mut.ensures.writes in
    puts_now w c.args.graph.now c.requires.in_step c.args.sort key c.in-Some.seat.now
    (sym (ap (λ r. seat_seen w key (option_copied_mut r)) c.in-Some.is) ∙ c.seat_mut.ensures.value)
    c.write_to.new.seat (held_with c.args.value c.args.id) may c.write_to.ensures.seen

pub returns-clause-in_step : goal.returns-clause-in_step
returns-clause-in_step g c =
    let w = (watch-value g.row.B g.B.Observer g.B.Observer-dict g.B.Destruct-dict).it in
    let key = c.args.key.0 in
    let seat = c.in-Some.seat.now in
    let at = sym (ap (λ r. seat_seen w key (option_copied_mut r)) c.in-Some.is)
    ∙ c.seat_mut.ensures.value in
    let may = subst (λ r. IfSome r (λ o. MayWrite w c.args.sort key c.args.graph.now o.now))
    c.in-Some.is c.seat_mut.ensures.writes in
    now_in_step w c.args.graph.now c.requires.in_step c.args.sort key seat at
    c.write_to.new.seat (held_with c.args.value c.args.id) may c.write_to.ensures.seen
    c.write_to.ensures.fits
    (no_half_value c.args.value (w seat).seen (seat_plays w c.args.graph.now c.requires.in_step
    c.args.sort key seat at (own_role c.args.value) c.requires.there))
