use Rattle.std.proofs.Common.{sym, ap, subst, ◌∙◌}
use Rattle.std.specs.Prelude.{IfSome, false}
use Rattle.std.specs.Option.{option_copied_mut}
use Rattle.base_items.specs.declared.items.ItemSort.TheVariants.{Node}
use Rattle.notify_chain.specs.Seats.{seat_seen}
use Rattle.alter_graph.specs.Chains.{chains_seen}
use Rattle.alter_graph.specs.Lending.{MayWrite}
use Rattle.kept_views.specs.ItemViews.{marks}
use Rattle.desk_seats.specs.Contents.{holding}
use Rattle.desk_seats.specs.contracts.seat.SeatObserver.TheImpl.{watch-value}
use Rattle.desk_world.specs.KeptMaps.{present_in}
use Rattle.desk_world.specs.Looks.{look_in}
use Rattle.desk_world.specs.Placing.{marked_with, marks_by, own_role}
use Rattle.desk_world.proofs.PlaceCalls.{all_pass, has_marked, no_half_view}
use Rattle.desk_world.proofs.SeatWrites.{no_seat, seat_plays, puts_now, now_in_step}
use Rattle.desk_world.proofs.placing.place_node.Goals as goal

pub unreachable-requires : goal.unreachable-requires
unreachable-requires g c =
    let w = (watch-value g.row.B g.B.Observer g.B.Observer-dict g.B.Destruct-dict).it in
    let key = c.args.keys.now.nodes.0 in
    no_seat w c.args.graph.now c.requires.in_step Node key (own_role Node c.args.keys.now.maps)
    c.requires.seat
    (sym (ap (λ r. seat_seen w key (option_copied_mut r)) c.in-None.is) ∙ c.seat_mut.ensures.value)

pub set_node-requires-clause-form : goal.set_node-requires-clause-form
set_node-requires-clause-form g c =
    let w = (watch-value g.row.B g.B.Observer g.B.Observer-dict g.B.Destruct-dict).it in
    let key = c.args.keys.now.nodes.0 in
    (seat_plays w c.args.graph.now c.requires.in_step Node key c.in-Some.seat.now
    (sym (ap (λ r. seat_seen w key (option_copied_mut r)) c.in-Some.is) ∙ c.seat_mut.ensures.value)
    (own_role Node c.args.keys.now.maps) c.requires.seat).form

pub set_node-requires-clause-live : goal.set_node-requires-clause-live
set_node-requires-clause-live g c =
    let w = (watch-value g.row.B g.B.Observer g.B.Observer-dict g.B.Destruct-dict).it in
    let key = c.args.keys.now.nodes.0 in
    let at = sym (ap (λ r. seat_seen w key (option_copied_mut r)) c.in-Some.is)
    ∙ c.seat_mut.ensures.value in
    has_marked w c.args.graph.now c.requires.in_step Node key c.in-Some.seat.now at _ _
    (seat_plays w c.args.graph.now c.requires.in_step Node key c.in-Some.seat.now at
    (own_role Node c.args.keys.now.maps) c.requires.seat).making c.args.id c.requires.live

pub set_node-requires-clause-all : goal.set_node-requires-clause-all
set_node-requires-clause-all g c =
    let w = (watch-value g.row.B g.B.Observer g.B.Observer-dict g.B.Destruct-dict).it in
    let m = c.args.keys.now.maps in
    let key = c.args.keys.now.nodes.0 in
    let at = sym (ap (λ r. seat_seen w key (option_copied_mut r)) c.in-Some.is)
    ∙ c.seat_mut.ensures.value in
    all_pass (look_in (chains_seen w c.args.graph.now.chains) Node) m.node_filter c.args.id
    (w c.in-Some.seat.now).seen _
    (seat_plays w c.args.graph.now c.requires.in_step Node key c.in-Some.seat.now at
    (own_role Node m) c.requires.seat).making c.passes-shown.result c.passes-shown.ensures

pub returns-clause-puts : goal.returns-clause-puts
returns-clause-puts g c =
    let w = (watch-value g.row.B g.B.Observer g.B.Observer-dict g.B.Destruct-dict).it in
    let m = c.args.keys.now.maps in
    let key = c.args.keys.now.nodes.0 in
    let s = (w c.in-Some.seat.now).seen in
    let may = subst (λ r. IfSome r (λ o. MayWrite w Node key c.args.graph.now o.now))
    c.in-Some.is c.seat_mut.ensures.writes in
    let v = present_in (look_in (chains_seen w c.args.graph.now.chains)) m in
    puts_now w c.args.graph.now c.requires.in_step Node key c.in-Some.seat.now
    (sym (ap (λ r. seat_seen w key (option_copied_mut r)) c.in-Some.is) ∙ c.seat_mut.ensures.value)
    c.set_node.new.self (marked_with c.args.id (marks_by v Node c.args.id)) may
    (c.set_node.ensures.seen ∙ (λ i. holding (marked_with c.args.id
    (marks (c.passes-shown.ensures i) false false) s) s))

pub returns-clause-in_step : goal.returns-clause-in_step
returns-clause-in_step g c =
    let w = (watch-value g.row.B g.B.Observer g.B.Observer-dict g.B.Destruct-dict).it in
    let m = c.args.keys.now.maps in
    let key = c.args.keys.now.nodes.0 in
    let seat = c.in-Some.seat.now in
    let at = sym (ap (λ r. seat_seen w key (option_copied_mut r)) c.in-Some.is)
    ∙ c.seat_mut.ensures.value in
    let s = (w seat).seen in
    let v = present_in (look_in (chains_seen w c.args.graph.now.chains)) m in
    let may = subst (λ r. IfSome r (λ o. MayWrite w Node key c.args.graph.now o.now))
    c.in-Some.is c.seat_mut.ensures.writes in
    now_in_step w c.args.graph.now c.requires.in_step Node key seat at
    c.set_node.new.self (marked_with c.args.id (marks_by v Node c.args.id)) may
    (c.set_node.ensures.seen ∙ (λ i. holding (marked_with c.args.id
    (marks (c.passes-shown.ensures i) false false) s) s)) c.set_node.ensures.fits
    (no_half_view Node m s (seat_plays w c.args.graph.now c.requires.in_step Node key seat at
    (own_role Node m) c.requires.seat))
