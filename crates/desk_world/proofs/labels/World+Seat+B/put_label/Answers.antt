use Rattle.std.proofs.Common.{None, refl, ap, sym, subst, ◌≤◌, ◌∙◌}
use Rattle.std.specs.Prelude.{IfSome}
use Rattle.std.specs.Option.{option_copied_mut}
use Rattle.notify_chain.specs.Seats.{seat_seen}
use Rattle.alter_graph.specs.Lending.{MayWrite}
use Rattle.index_maps.specs.RefViews.{HasLabel, IsFreeLabel, with_label}
use Rattle.desk_seats.specs.Contents.{labels_in}
use Rattle.desk_seats.specs.contracts.seat.SeatObserver.TheImpl.{watch-value}
use Rattle.desk_world.proofs.Adding.{has_item}
use Rattle.desk_world.proofs.Labelled.{labels_found, labels_there, entries_here}
use Rattle.desk_world.proofs.LabelsWritten.{gives_label, others_room, room_there}
use Rattle.desk_world.proofs.labels.World+Seat+B.put_label.Goals as goal

pub unreachable-requires : goal.unreachable-requires
unreachable-requires g c =
    let w = (watch-value g.row.B g.B.Observer g.B.Observer-dict g.B.Destruct-dict).it in
    let items = c.tables.result.now in
    labels_there w c.args.self.now c.args.sort items c.requires.in_step c.tables.ensures
    (sym (ap (λ r. seat_seen w items.labels.0 (option_copied_mut r)) c.in-None.is)
    ∙ c.seat_mut.ensures.value)

pub put_label-requires-clause-form : goal.put_label-requires-clause-form
put_label-requires-clause-form g c =
    let w = (watch-value g.row.B g.B.Observer g.B.Observer-dict g.B.Destruct-dict).it in
    let items = c.tables.result.now in
    (labels_found w c.args.self.now c.args.sort items c.in-Some.seat.now c.requires.in_step
    c.tables.ensures
    (sym (ap (λ r. seat_seen w items.labels.0 (option_copied_mut r)) c.in-Some.is)
    ∙ c.seat_mut.ensures.value)).plays.form

pub put_label-requires-clause-live : goal.put_label-requires-clause-live
put_label-requires-clause-live g c =
    let w = (watch-value g.row.B g.B.Observer g.B.Observer-dict g.B.Destruct-dict).it in
    let items = c.tables.result.now in
    let has = labels_found w c.args.self.now c.args.sort items c.in-Some.seat.now c.requires.in_step
    c.tables.ensures
    (sym (ap (λ r. seat_seen w items.labels.0 (option_copied_mut r)) c.in-Some.is)
    ∙ c.seat_mut.ensures.value) in
    subst (HasLabel c.args.id None)
    (entries_here w c.args.self.now c.args.sort (w c.in-Some.seat.now).seen has.seen)
    c.requires.live

pub put_label-requires-clause-free : goal.put_label-requires-clause-free
put_label-requires-clause-free g c =
    let w = (watch-value g.row.B g.B.Observer g.B.Observer-dict g.B.Destruct-dict).it in
    let items = c.tables.result.now in
    let has = labels_found w c.args.self.now c.args.sort items c.in-Some.seat.now c.requires.in_step
    c.tables.ensures
    (sym (ap (λ r. seat_seen w items.labels.0 (option_copied_mut r)) c.in-Some.is)
    ∙ c.seat_mut.ensures.value) in
    subst (IsFreeLabel c.args.label)
    (entries_here w c.args.self.now c.args.sort (w c.in-Some.seat.now).seen has.seen)
    c.requires.free

pub put_label-requires-clause-room : goal.put_label-requires-clause-room
put_label-requires-clause-room g c =
    let w = (watch-value g.row.B g.B.Observer g.B.Observer-dict g.B.Destruct-dict).it in
    let items = c.tables.result.now in
    subst (λ n. 1 ≤ n)
    (room_there w c.args.self.now c.args.sort items c.in-Some.seat.now c.tables.ensures
    (sym (ap (λ r. seat_seen w items.labels.0 (option_copied_mut r)) c.in-Some.is)
    ∙ c.seat_mut.ensures.value)) c.requires.room

pub returns : goal.returns
returns g c =
    let w = (watch-value g.row.B g.B.Observer g.B.Observer-dict g.B.Destruct-dict).it in
    let self = c.args.self.now in
    let old = c.in-Some.seat.now in
    let items = c.tables.result.now in
    let found =
    sym (ap (λ r. seat_seen w items.labels.0 (option_copied_mut r)) c.in-Some.is)
    ∙ c.seat_mut.ensures.value in
    let may = subst (λ r. IfSome r (λ o. MayWrite w c.args.sort items.labels.0 self.graph o.now))
    c.in-Some.is c.seat_mut.ensures.writes in
    let has = labels_found w self c.args.sort items old c.requires.in_step c.tables.ensures found in
    let live = subst (HasLabel c.args.id None)
    (entries_here w self c.args.sort (w old).seen has.seen) c.requires.live in
    let done = gives_label w self c.args.sort items old c.put_label.new.self c.requires.in_step
    c.tables.ensures found may c.args.id c.args.label c.put_label.ensures.seen
    c.put_label.ensures.fits
    (has_item (with_label c.args.id None) (labels_in (w old).seen) live) in
    record {
      labelled = done.plain;
      in_step = done.in_step;
      graph = refl;
      others = others_room w self c.args.sort items old c.put_label.new.self c.requires.in_step
          c.tables.ensures found may;
      pool = refl;
    }
