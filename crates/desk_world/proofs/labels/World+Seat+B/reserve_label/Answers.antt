use Rattle.std.proofs.Common.{refl, ap, sym, subst, ◌≤◌, ◌∙◌}
use Rattle.std.specs.Prelude.{IfSome, OnOk}
use Rattle.std.specs.Option.{option_copied_mut}
use Rattle.notify_chain.specs.Seats.{seat_seen}
use Rattle.alter_graph.specs.Lending.{MayWrite}
use Rattle.index_maps.specs.RefViews.{IsFreeLabel}
use Rattle.desk_seats.specs.contracts.seat.SeatObserver.TheImpl.{watch-value}
use Rattle.desk_world.proofs.Labelled.{labels_found, labels_there, entries_here}
use Rattle.desk_world.proofs.LabelsWritten.{others_room, readies}
use Rattle.desk_world.proofs.labels.World+Seat+B.reserve_label.Goals as goal

pub unreachable-requires : goal.unreachable-requires
unreachable-requires g c =
    let w = (watch-value g.row.B g.B.Observer g.B.Observer-dict g.B.Destruct-dict).it in
    let items = c.tables.result.now in
    labels_there w c.args.self.now c.args.sort items c.requires.in_step c.tables.ensures
    (sym (ap (λ r. seat_seen w items.labels.0 (option_copied_mut r)) c.in-None.is)
    ∙ c.seat_mut.ensures.value)

pub reserve_label-requires-clause-form : goal.reserve_label-requires-clause-form
reserve_label-requires-clause-form g c =
    let w = (watch-value g.row.B g.B.Observer g.B.Observer-dict g.B.Destruct-dict).it in
    let items = c.tables.result.now in
    (labels_found w c.args.self.now c.args.sort items c.in-Some.seat.now c.requires.in_step
    c.tables.ensures
    (sym (ap (λ r. seat_seen w items.labels.0 (option_copied_mut r)) c.in-Some.is)
    ∙ c.seat_mut.ensures.value)).plays.form

pub reserve_label-requires-clause-free : goal.reserve_label-requires-clause-free
reserve_label-requires-clause-free g c =
    let w = (watch-value g.row.B g.B.Observer g.B.Observer-dict g.B.Destruct-dict).it in
    let items = c.tables.result.now in
    let has = labels_found w c.args.self.now c.args.sort items c.in-Some.seat.now c.requires.in_step
    c.tables.ensures
    (sym (ap (λ r. seat_seen w items.labels.0 (option_copied_mut r)) c.in-Some.is)
    ∙ c.seat_mut.ensures.value) in
    subst (IsFreeLabel c.args.label.now)
    (entries_here w c.args.self.now c.args.sort (w c.in-Some.seat.now).seen has.seen)
    c.requires.free

pub returns : goal.returns
returns g c =
    let w = (watch-value g.row.B g.B.Observer g.B.Observer-dict g.B.Destruct-dict).it in
    let self = c.args.self.now in
    let items = c.tables.result.now in
    let found =
    sym (ap (λ r. seat_seen w items.labels.0 (option_copied_mut r)) c.in-Some.is)
    ∙ c.seat_mut.ensures.value in
    let may = subst (λ r. IfSome r (λ o. MayWrite w c.args.sort items.labels.0 self.graph o.now))
    c.in-Some.is c.seat_mut.ensures.writes in
    let done = readies w self c.args.sort items c.in-Some.seat.now c.reserve_label.new.self
    c.requires.in_step c.tables.ensures found may c.reserve_label.ensures.same in
    record {
      same = done.plain;
      labels = done.labels;
      graph = refl;
      room = subst (λ n. OnOk c.reserve_label.result (1 ≤ n)) (sym done.room)
          c.reserve_label.ensures.ok;
      others = others_room w self c.args.sort items c.in-Some.seat.now c.reserve_label.new.self
          c.requires.in_step c.tables.ensures found may;
      in_step = done.in_step;
      pool = refl;
    }
