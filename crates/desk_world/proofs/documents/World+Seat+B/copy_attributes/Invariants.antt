use Rattle.std.proofs.Common.{◌≡◌, take}
use Rattle.desk_seats.specs.contracts.seat.SeatObserver.TheImpl.{watch-value}
use Rattle.desk_world.proofs.DocParts.{attributes_of}
use Rattle.desk_world.proofs.documents.World+Seat+B.copy_attributes.Given as goal

abbrev pub invariant-loop-place : goal.invariant-loop-place
invariant-loop-place g l =
    l.attributes.items
    ≡ attributes_of (watch-value g.row.B g.B.Observer g.B.Observer-dict g.B.Destruct-dict).it l.self
    (take l.place l.self.attributes.rows)
