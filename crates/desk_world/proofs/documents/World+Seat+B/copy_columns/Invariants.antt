use Rattle.std.proofs.Common.{◌≡◌, ◌∷◌, take}
use Rattle.lgf_file.specs.Documents.{label}
use Rattle.desk_seats.specs.contracts.seat.SeatObserver.TheImpl.{watch-value}
use Rattle.desk_world.specs.Plain.{tables_of}
use Rattle.desk_world.proofs.DocParts.{names_of}
use Rattle.desk_world.proofs.documents.World+Seat+B.copy_columns.Given as goal

abbrev pub invariant-loop-place : goal.invariant-loop-place
invariant-loop-place g l =
    l.columns.items
    ≡ label ∷ names_of (watch-value g.row.B g.B.Observer g.B.Observer-dict g.B.Destruct-dict).it
    l.fn.self l.fn.sort (take l.place (tables_of l.fn.self l.fn.sort).maps.rows)
