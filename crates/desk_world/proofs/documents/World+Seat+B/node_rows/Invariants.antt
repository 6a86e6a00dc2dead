use Rattle.std.proofs.Common.{◌≡◌, map, length}
use Rattle.std.specs.List.{range_with_len}
use Rattle.base_items.specs.declared.items.ItemSort.TheVariants.{Node}
use Rattle.desk_seats.specs.contracts.seat.SeatObserver.TheImpl.{watch-value}
use Rattle.plain_world.specs.Documents.{cells_of}
use Rattle.desk_world.specs.Plain.{plain_of}
use Rattle.desk_world.specs.RowPlaces.{rising_below}
use Rattle.desk_world.proofs.documents.World+Seat+B.node_rows.Given as goal

abbrev pub invariant-loop-id : goal.invariant-loop-id
invariant-loop-id g l = record {
  rows : l.rows.items
      ≡ map (cells_of (plain_of
      (watch-value g.row.B g.B.Observer g.B.Observer-dict g.B.Destruct-dict).it l.self) Node)
      (rising_below l.self.graph.graph.graph Node l.id);
  places : l.places.items
      ≡ map (λ id. length (rising_below l.self.graph.graph.graph Node id))
      (range_with_len 0 l.id);
}
