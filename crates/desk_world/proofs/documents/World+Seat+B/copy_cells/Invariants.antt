use Rattle.std.proofs.Common.{◌≡◌, ◌∷◌, take}
use Rattle.desk_seats.specs.contracts.seat.SeatObserver.TheImpl.{watch-value}
use Rattle.plain_world.specs.World.{label_of}
use Rattle.desk_world.specs.Plain.{plain_of, tables_of}
use Rattle.desk_world.proofs.DocParts.{texts_at}
use Rattle.desk_world.proofs.documents.World+Seat+B.copy_cells.Given as goal

abbrev pub invariant-loop-place : goal.invariant-loop-place
invariant-loop-place g l =
    let w = (watch-value g.row.B g.B.Observer g.B.Observer-dict g.B.Destruct-dict).it in
    l.cells.items
    ≡ label_of (plain_of w l.self) l.sort l.id
    ∷ texts_at w l.self l.sort l.id (take l.place (tables_of l.self l.sort).maps.rows)
