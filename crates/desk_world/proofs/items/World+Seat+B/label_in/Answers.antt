use Rattle.std.proofs.Common.{subst}
use Rattle.std.specs.Prelude.{MatchOption, Some}
use Rattle.index_maps.specs.RefViews.{HasLabel, HasNoLabel}
use Rattle.desk_seats.specs.Contents.{labels_in}
use Rattle.desk_seats.specs.contracts.seat.SeatObserver.TheImpl.{watch-value}
use Rattle.desk_world.proofs.Labelled.{labels_from, none_unlabelled, found_label}
use Rattle.desk_world.proofs.items.World+Seat+B.label_in.Goals as goal

pub unreachable-requires : goal.unreachable-requires
unreachable-requires g c =
    let w = (watch-value g.row.B g.B.Observer g.B.Observer-dict g.B.Destruct-dict).it in
    let self = c.args.self.now in
    let seat = c.args.labels.now in
    let has = labels_from w self c.args.sort seat c.requires.in_step.seats c.requires.seen in
    let id = c.args.id in
    none_unlabelled w self c.args.sort seat has c.requires.in_step id c.requires.live
    (subst (λ r. MatchOption r (HasNoLabel id (labels_in (w seat).seen))
    (λ label. HasLabel id (Some label.now) (labels_in (w seat).seen))) c.in-None.is
    c.label.ensures)

pub returns : goal.returns
returns g c =
    let w = (watch-value g.row.B g.B.Observer g.B.Observer-dict g.B.Destruct-dict).it in
    let self = c.args.self.now in
    let seat = c.args.labels.now in
    let has = labels_from w self c.args.sort seat c.requires.in_step.seats c.requires.seen in
    let id = c.args.id in
    found_label w self c.args.sort seat has c.requires.in_step c.in-Some.label.now id
    (subst (λ r. MatchOption r (HasNoLabel id (labels_in (w seat).seen))
    (λ label. HasLabel id (Some label.now) (labels_in (w seat).seen))) c.in-Some.is
    c.label.ensures)
