use Rattle.std.proofs.Common.{◌≡◌, map}
use Rattle.base_items.specs.declared.items.ItemSort.TheVariants.{Arc}
use Rattle.desk_seats.specs.contracts.seat.SeatObserver.TheImpl.{watch-value}
use Rattle.plain_world.specs.Documents.{link_of}
use Rattle.desk_world.specs.Plain.{plain_of}
use Rattle.desk_world.specs.RowPlaces.{rising_below}
use Rattle.desk_world.proofs.documents.World+Seat+B.arc_rows.Given as goal

abbrev pub invariant-loop-id : goal.invariant-loop-id
invariant-loop-id g l =
    let w = (watch-value g.row.B g.B.Observer g.B.Observer-dict g.B.Destruct-dict).it in
    l.links.items
    ≡ map (link_of (plain_of w l.self)) (rising_below l.self.graph.graph.graph Arc l.id)
