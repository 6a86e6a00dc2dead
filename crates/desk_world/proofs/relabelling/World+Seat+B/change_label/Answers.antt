use Rattle.std.proofs.Common.{refl, ap, sym, subst, Some, ◌≤◌, ◌∙◌}
use Rattle.std.specs.Prelude.{IfSome}
use Rattle.std.specs.Option.{option_copied_mut}
use Rattle.notify_chain.specs.Seats.{seat_seen}
use Rattle.alter_graph.specs.Lending.{MayWrite}
use Rattle.index_maps.specs.RefViews.{IsFreeLabel, with_label}
use Rattle.desk_seats.specs.Contents.{labels_in}
use Rattle.desk_seats.specs.contracts.seat.SeatObserver.TheImpl.{watch-value}
use Rattle.desk_world.proofs.Adding.{has_item}
use Rattle.desk_world.proofs.Labelled.{labels_found, labels_there, entries_here}
use Rattle.desk_world.proofs.LabelsWritten.{gives_label, room_there}
use Rattle.desk_world.proofs.Renamed.{some_label}
use Rattle.desk_world.proofs.relabelling.World+Seat+B.change_label.Goals as goal

pub unreachable-requires : goal.unreachable-requires
unreachable-requires g c =
    let w = (watch-value g.row.B g.B.Observer g.B.Observer-dict g.B.Destruct-dict).it in
    let items = c.tables.result.now in
    labels_there w c.args.self.now c.args.sort items c.requires.in_step.seats c.tables.ensures
    (sym (ap (λ r. seat_seen w items.labels.0 (option_copied_mut r)) c.in-None.is)
    ∙ c.seat_mut.ensures.value)

pub replace_label-requires : goal.replace_label-requires
replace_label-requires g c =
    let w = (watch-value g.row.B g.B.Observer g.B.Observer-dict g.B.Destruct-dict).it in
    let self = c.args.self.now in
    let sort = c.args.sort in
    let items = c.tables.result.now in
    let old = c.in-Some.seat.now in
    let found =
    sym (ap (λ r. seat_seen w items.labels.0 (option_copied_mut r)) c.in-Some.is)
    ∙ c.seat_mut.ensures.value in
    let has = labels_found w self sort items old c.requires.in_step.seats c.tables.ensures found in
    record {
      form = has.plays.form;
      labelled = some_label w self sort old has c.requires.in_step c.args.id c.requires.live;
      free = subst (IsFreeLabel c.args.label) (entries_here w self sort (w old).seen has.seen)
          c.requires.free;
      room = subst (λ n. 1 ≤ n) (room_there w self sort items old c.tables.ensures found)
          c.requires.room;
    }

pub returns : goal.returns
returns g c =
    let w = (watch-value g.row.B g.B.Observer g.B.Observer-dict g.B.Destruct-dict).it in
    let self = c.args.self.now in
    let sort = c.args.sort in
    let items = c.tables.result.now in
    let old = c.in-Some.seat.now in
    let found =
    sym (ap (λ r. seat_seen w items.labels.0 (option_copied_mut r)) c.in-Some.is)
    ∙ c.seat_mut.ensures.value in
    let may = subst (λ r. IfSome r (λ o. MayWrite w sort items.labels.0 self.graph o.now))
    c.in-Some.is c.seat_mut.ensures.writes in
    let has = labels_found w self sort items old c.requires.in_step.seats c.tables.ensures found in
    let label = some_label w self sort old has c.requires.in_step c.args.id c.requires.live in
    let done = gives_label w self sort items old c.replace_label.new.self
    c.requires.in_step.seats c.tables.ensures found may c.args.id c.args.label
    c.replace_label.ensures.seen c.replace_label.ensures.fits
    (has_item (with_label c.args.id (Some label.0)) (labels_in (w old).seen) label.1) in
    record { labelled = done.plain; in_step = done.in_step; graph = refl }
