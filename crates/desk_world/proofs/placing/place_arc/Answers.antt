use Rattle.std.proofs.Common.{sym, ap, subst, ◌∙◌, FitsSigned, w64, rules}
use Rattle.std.specs.Prelude.{IfSome, int_lt, pos}
use Rattle.std.specs.Option.{option_copied_mut}
use Rattle.std.proofs.lemmas.Int.{to_z-of_z}
use Rattle.base_items.specs.declared.items.ItemSort.TheVariants.{Arc}
use Rattle.notify_chain.specs.Seats.{seat_seen}
use Rattle.alter_graph.specs.Chains.{chains_seen}
use Rattle.alter_graph.specs.Lending.{MayWrite}
use Rattle.kept_views.specs.ItemViews.{marks}
use Rattle.desk_seats.specs.Contents.{holding}
use Rattle.desk_seats.specs.contracts.seat.SeatObserver.TheImpl.{watch-value}
use Rattle.desk_world.specs.KeptMaps.{present_in}
use Rattle.desk_world.specs.Looks.{look_in}
use Rattle.desk_world.specs.Placing.{marked_with, marks_by, own_role}
use Rattle.desk_world.proofs.PlaceCalls.{all_pass, has_marked, no_half_view}
use Rattle.desk_world.proofs.SeatWrites.{no_seat, seat_plays, puts_now, now_in_step}
use Rattle.desk_world.proofs.placing.place_arc.Goals as goal

pub unreachable-requires : goal.unreachable-requires
unreachable-requires g c =
    let w = (watch-value g.row.B g.B.Observer g.B.Observer-dict g.B.Destruct-dict).it in
    let key = c.args.keys.now.arcs.0 in
    no_seat w c.args.graph.now c.requires.in_step Arc key (own_role Arc c.args.keys.now.maps)
    c.requires.seat
    (sym (ap (λ r. seat_seen w key (option_copied_mut r)) c.in-None.is) ∙ c.seat_mut.ensures.value)

pub set_arc-requires-clause-form : goal.set_arc-requires-clause-form
set_arc-requires-clause-form g c =
    let w = (watch-value g.row.B g.B.Observer g.B.Observer-dict g.B.Destruct-dict).it in
    let key = c.args.keys.now.arcs.0 in
    (seat_plays w c.args.graph.now c.requires.in_step Arc key c.in-Some.seat.now
    (sym (ap (λ r. seat_seen w key (option_copied_mut r)) c.in-Some.is) ∙ c.seat_mut.ensures.value)
    (own_role Arc c.args.keys.now.maps) c.requires.seat).form

pub set_arc-requires-clause-live : goal.set_arc-requires-clause-live
set_arc-requires-clause-live g c =
    let w = (watch-value g.row.B g.B.Observer g.B.Observer-dict g.B.Destruct-dict).it in
    let key = c.args.keys.now.arcs.0 in
    let at = sym (ap (λ r. seat_seen w key (option_copied_mut r)) c.in-Some.is)
    ∙ c.seat_mut.ensures.value in
    has_marked w c.args.graph.now c.requires.in_step Arc key c.in-Some.seat.now at _ _
    (seat_plays w c.args.graph.now c.requires.in_step Arc key c.in-Some.seat.now at
    (own_role Arc c.args.keys.now.maps) c.requires.seat).making c.args.id c.requires.live

pub set_arc-requires-clause-all : goal.set_arc-requires-clause-all
set_arc-requires-clause-all g c =
    let w = (watch-value g.row.B g.B.Observer g.B.Observer-dict g.B.Destruct-dict).it in
    let m = c.args.keys.now.maps in
    let key = c.args.keys.now.arcs.0 in
    let at = sym (ap (λ r. seat_seen w key (option_copied_mut r)) c.in-Some.is)
    ∙ c.seat_mut.ensures.value in
    all_pass (look_in (chains_seen w c.args.graph.now.chains) Arc) m.arc_filter c.args.id
    (w c.in-Some.seat.now).seen _
    (seat_plays w c.args.graph.now c.requires.in_step Arc key c.in-Some.seat.now at
    (own_role Arc m) c.requires.seat).making c.passes-shown.result c.passes-shown.ensures

pub returns-clause-puts : goal.returns-clause-puts
returns-clause-puts g c =
    let w = (watch-value g.row.B g.B.Observer g.B.Observer-dict g.B.Destruct-dict).it in
    let m = c.args.keys.now.maps in
    let key = c.args.keys.now.arcs.0 in
    let s = (w c.in-Some.seat.now).seen in
    let may = subst (λ r. IfSome r (λ o. MayWrite w Arc key c.args.graph.now o.now))
    c.in-Some.is c.seat_mut.ensures.writes in
    let v = present_in (look_in (chains_seen w c.args.graph.now.chains)) m in
    let one : FitsSigned w64 c.amount-flow.result = search rules in
    let two : FitsSigned w64 c.amount-cap.result = search rules in
    let flow = to_z-of_z w64 c.amount-flow.result one ∙ c.amount-flow.ensures in
    let cap = to_z-of_z w64 c.amount-cap.result two ∙ c.amount-cap.ensures in
    puts_now w c.args.graph.now c.requires.in_step Arc key c.in-Some.seat.now
    (sym (ap (λ r. seat_seen w key (option_copied_mut r)) c.in-Some.is) ∙ c.seat_mut.ensures.value)
    c.set_arc.new.self (marked_with c.args.id (marks_by v Arc c.args.id)) may
    (c.set_arc.ensures.seen ∙ (λ i. holding (marked_with c.args.id (marks (c.passes-shown.ensures i)
    (int_lt (flow i) (cap i)) (int_lt (pos 0) (flow i))) s) s))

pub returns-clause-in_step : goal.returns-clause-in_step
returns-clause-in_step g c =
    let w = (watch-value g.row.B g.B.Observer g.B.Observer-dict g.B.Destruct-dict).it in
    let m = c.args.keys.now.maps in
    let key = c.args.keys.now.arcs.0 in
    let seat = c.in-Some.seat.now in
    let at = sym (ap (λ r. seat_seen w key (option_copied_mut r)) c.in-Some.is)
    ∙ c.seat_mut.ensures.value in
    let s = (w seat).seen in
    let v = present_in (look_in (chains_seen w c.args.graph.now.chains)) m in
    let may = subst (λ r. IfSome r (λ o. MayWrite w Arc key c.args.graph.now o.now))
    c.in-Some.is c.seat_mut.ensures.writes in
    let one : FitsSigned w64 c.amount-flow.result = search rules in
    let two : FitsSigned w64 c.amount-cap.result = search rules in
    let flow = to_z-of_z w64 c.amount-flow.result one ∙ c.amount-flow.ensures in
    let cap = to_z-of_z w64 c.amount-cap.result two ∙ c.amount-cap.ensures in
    now_in_step w c.args.graph.now c.requires.in_step Arc key seat at
    c.set_arc.new.self (marked_with c.args.id (marks_by v Arc c.args.id)) may
    (c.set_arc.ensures.seen ∙ (λ i. holding (marked_with c.args.id (marks (c.passes-shown.ensures i)
    (int_lt (flow i) (cap i)) (int_lt (pos 0) (flow i))) s) s)) c.set_arc.ensures.fits
    (no_half_view Arc m s (seat_plays w c.args.graph.now c.requires.in_step Arc key seat at
    (own_role Arc m) c.requires.seat))
