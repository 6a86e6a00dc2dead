use Rattle.std.proofs.Common.{refl, ap, sym, subst, Some, None, ◌≡◌, ◌∙◌}
use Rattle.std.specs.Prelude.{IfSome}
use Rattle.std.specs.Option.{option_copied_mut}
use Rattle.notify_chain.specs.Seats.{seat_seen}
use Rattle.alter_graph.specs.Lending.{MayWrite}
use Rattle.desk_seats.specs.contracts.seat.SeatObserver.TheImpl.{watch-value}
use Rattle.desk_world.proofs.MapCalls.{if_err}
use Rattle.desk_world.proofs.TieCalls.{has_place, place_free, not_started, started}
use Rattle.desk_world.proofs.TiesFound.{ties_found, ties_there}
use Rattle.desk_world.proofs.ties.World+Seat+B.start_tie.Goals as goal

pub unreachable-requires : goal.unreachable-requires
unreachable-requires g c =
    let w = (watch-value g.row.B g.B.Observer g.B.Observer-dict g.B.Destruct-dict).it in
    has_place w c.args.self.now c.args.sort c.args.id c.args.name.now c.requires.told
    c.place.ensures.differ (sym c.place.ensures.place ∙ c.in_default.is)

pub unreachable-requires-in_default-seat_mut : goal.unreachable-requires-in_default-seat_mut
unreachable-requires-in_default-seat_mut g c =
    let w = (watch-value g.row.B g.B.Observer g.B.Observer-dict g.B.Destruct-dict).it in
    let items = c.tables.result.now in
    ties_there w c.args.self.now c.args.sort items c.requires.in_step.seats c.tables.ensures
    (sym (ap (λ r. seat_seen w items.ties.0 (option_copied_mut r)) c.in_default-seat_mut.is)
    ∙ c.seat_mut.ensures.value)

pub put_tie-requires-clause-form : goal.put_tie-requires-clause-form
put_tie-requires-clause-form g c =
    let w = (watch-value g.row.B g.B.Observer g.B.Observer-dict g.B.Destruct-dict).it in
    let items = c.tables.result.now in
    (ties_found w c.args.self.now c.args.sort items c.in-Some-seat_mut.seat.now
    c.requires.in_step.seats c.tables.ensures
    (sym (ap (λ r. seat_seen w items.ties.0 (option_copied_mut r)) c.in-Some-seat_mut.is)
    ∙ c.seat_mut.ensures.value)).plays.form

pub put_tie-requires-clause-free : goal.put_tie-requires-clause-free
put_tie-requires-clause-free g c =
    let w = (watch-value g.row.B g.B.Observer g.B.Observer-dict g.B.Destruct-dict).it in
    let self = c.args.self.now in
    let sort = c.args.sort in
    let items = c.tables.result.now in
    let old = c.in-Some-seat_mut.seat.now in
    let found =
    sym (ap (λ r. seat_seen w items.ties.0 (option_copied_mut r)) c.in-Some-seat_mut.is)
    ∙ c.seat_mut.ensures.value in
    let same : c.in-Ok.number ≡ c.in-Some.place = c.in-Ok.ensures.1 in
    let at = sym c.place.ensures.place ∙ c.in-Some.is ∙ ap Some (sym same) in
    place_free w self sort c.args.id c.args.name.now c.requires.told c.place.ensures.differ
    c.in-Ok.number at old
    (ties_found w self sort items old c.requires.in_step.seats c.tables.ensures found)
    c.requires.in_step.seats

pub returns-in_err-put_tie-clause-same : goal.returns-in_err-put_tie-clause-same
returns-in_err-put_tie-clause-same g c =
    let w = (watch-value g.row.B g.B.Observer g.B.Observer-dict g.B.Destruct-dict).it in
    let self = c.args.self.now in
    let sort = c.args.sort in
    let items = c.tables.result.now in
    let old = c.in-Some-seat_mut.seat.now in
    let found =
    sym (ap (λ r. seat_seen w items.ties.0 (option_copied_mut r)) c.in-Some-seat_mut.is)
    ∙ c.seat_mut.ensures.value in
    let may = subst (λ r. IfSome r (λ o. MayWrite w sort items.ties.0 self.graph o.now))
    c.in-Some-seat_mut.is c.seat_mut.ensures.writes in
    if_err c.from_residual.result
    (not_started w self sort items old c.put_tie.new.self c.requires.in_step.seats
    c.tables.ensures found may c.in_err-put_tie.ensures.err).plain

pub returns-in_err-put_tie-clause-in_step : goal.returns-in_err-put_tie-clause-in_step
returns-in_err-put_tie-clause-in_step g c =
    let w = (watch-value g.row.B g.B.Observer g.B.Observer-dict g.B.Destruct-dict).it in
    let self = c.args.self.now in
    let sort = c.args.sort in
    let items = c.tables.result.now in
    let old = c.in-Some-seat_mut.seat.now in
    let found =
    sym (ap (λ r. seat_seen w items.ties.0 (option_copied_mut r)) c.in-Some-seat_mut.is)
    ∙ c.seat_mut.ensures.value in
    let may = subst (λ r. IfSome r (λ o. MayWrite w sort items.ties.0 self.graph o.now))
    c.in-Some-seat_mut.is c.seat_mut.ensures.writes in
    (not_started w self sort items old c.put_tie.new.self c.requires.in_step.seats
    c.tables.ensures found may c.in_err-put_tie.ensures.err).in_step

pub returns : goal.returns
returns g c =
    let w = (watch-value g.row.B g.B.Observer g.B.Observer-dict g.B.Destruct-dict).it in
    let self = c.args.self.now in
    let sort = c.args.sort in
    let items = c.tables.result.now in
    let old = c.in-Some-seat_mut.seat.now in
    let found =
    sym (ap (λ r. seat_seen w items.ties.0 (option_copied_mut r)) c.in-Some-seat_mut.is)
    ∙ c.seat_mut.ensures.value in
    let may = subst (λ r. IfSome r (λ o. MayWrite w sort items.ties.0 self.graph o.now))
    c.in-Some-seat_mut.is c.seat_mut.ensures.writes in
    let same : c.in-Ok.number ≡ c.in-Some.place = c.in-Ok.ensures.1 in
    let at = sym c.place.ensures.place ∙ c.in-Some.is ∙ ap Some (sym same) in
    let done = started w self sort items old c.put_tie.new.self c.requires.in_step.seats
    c.tables.ensures found may c.requires.in_step.valid c.args.id c.in-Ok.number
    c.in_ok-put_tie.ensures.ok c.put_tie.ensures.fits c.replace.new.self c.args.name.now
    c.requires.told c.place.ensures.differ at c.replace.ensures.rows in
    record { tied = done.plain; same = tt; in_step = done.in_step; graph = refl }
