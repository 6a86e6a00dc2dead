use Rattle.std.proofs.Common.{sym, ap, subst, ◌∙◌, FitsSigned, w64, rules}
use Rattle.std.specs.Option.{option_copied}
use Rattle.std.proofs.lemmas.Int.{to_z-of_z}
use Rattle.base_items.specs.declared.items.ItemSort.TheVariants.{Arc}
use Rattle.notify_chain.specs.Seats.{seat_seen}
use Rattle.alter_graph.specs.Chains.{chains_seen}
use Rattle.desk_seats.specs.contracts.seat.SeatObserver.TheImpl.{watch-value}
use Rattle.desk_world.specs.Claims as claims
use Rattle.desk_world.specs.KeptMaps.{amount}
use Rattle.desk_world.specs.Looks.{look_in}
use Rattle.desk_world.specs.Placing.{SitsGiven}
use Rattle.desk_world.proofs.PlaceCalls.{has_int, int_there}
use Rattle.desk_world.proofs.SeatWrites.{no_seat, seat_plays}
use Rattle.desk_world.proofs.placing.amount.Goals as goal

pub unreachable-requires : goal.unreachable-requires
unreachable-requires g c =
    let w = (watch-value g.row.B g.B.Observer g.B.Observer-dict g.B.Destruct-dict).it in
    let a = c.args.graph.now in
    let key = c.in-Some.key.0 in
    let sits = subst (SitsGiven claims.Ints (look_in (chains_seen w a.chains) Arc)) c.in-Some.is
    c.requires.there in
    no_seat w a c.requires.in_step Arc key claims.Ints sits
    (sym (ap (λ r. seat_seen w key (option_copied r)) c.in-None.is) ∙ c.seat.ensures)

pub int-requires-clause-form : goal.int-requires-clause-form
int-requires-clause-form g c =
    let w = (watch-value g.row.B g.B.Observer g.B.Observer-dict g.B.Destruct-dict).it in
    let a = c.args.graph.now in
    let key = c.in-Some.key.0 in
    let sits = subst (SitsGiven claims.Ints (look_in (chains_seen w a.chains) Arc)) c.in-Some.is
    c.requires.there in
    (seat_plays w a c.requires.in_step Arc key c.in-Some-seat.seat.now
    (sym (ap (λ r. seat_seen w key (option_copied r)) c.in-Some-seat.is) ∙ c.seat.ensures)
    claims.Ints sits).form

pub int-requires-clause-live : goal.int-requires-clause-live
int-requires-clause-live g c =
    let w = (watch-value g.row.B g.B.Observer g.B.Observer-dict g.B.Destruct-dict).it in
    let a = c.args.graph.now in
    let key = c.in-Some.key.0 in
    let sits = subst (SitsGiven claims.Ints (look_in (chains_seen w a.chains) Arc)) c.in-Some.is
    c.requires.there in
    has_int w a c.requires.in_step Arc key c.in-Some-seat.seat.now
    (sym (ap (λ r. seat_seen w key (option_copied r)) c.in-Some-seat.is) ∙ c.seat.ensures)
    c.args.id sits c.requires.live

pub returns : goal.returns
returns g c =
    let w = (watch-value g.row.B g.B.Observer g.B.Observer-dict g.B.Destruct-dict).it in
    let a = c.args.graph.now in
    let key = c.in-Some.key.0 in
    let look = look_in (chains_seen w a.chains) Arc in
    let sits = subst (SitsGiven claims.Ints look) c.in-Some.is c.requires.there in
    let fits : FitsSigned w64 c.int.result = search rules in
    to_z-of_z w64 c.int.result fits
    ∙ sym (int_there w a c.requires.in_step Arc key c.in-Some-seat.seat.now
    (sym (ap (λ r. seat_seen w key (option_copied r)) c.in-Some-seat.is) ∙ c.seat.ensures)
    sits c.args.id c.int.result c.int.ensures)
    ∙ sym (ap (λ m. amount look m c.args.id) c.in-Some.is)
