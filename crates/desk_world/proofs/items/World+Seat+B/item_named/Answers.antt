use Rattle.desk_seats.specs.contracts.seat.SeatObserver.TheImpl.{watch-value}
use Rattle.desk_world.proofs.Labelled.{labels_from, named_is}
use Rattle.desk_world.proofs.items.World+Seat+B.item_named.Goals as goal

pub returns-clause-named : goal.returns-clause-named
returns-clause-named g c =
    let w = (watch-value g.row.B g.B.Observer g.B.Observer-dict g.B.Destruct-dict).it in
    let self = c.args.self.now in
    let seat = c.labels.result.now in
    let has = labels_from w self c.args.sort seat c.requires.seats c.labels.ensures.seen in
    named_is w self c.args.sort seat has c.requires c.args.name.now c.find_label.result
    c.find_label.ensures
