use Rattle.std.proofs.Common.{◌≡◌}
use Rattle.base_items.specs.declared.items.ItemSort.TheVariants.{Node}
use Rattle.lgf_file.specs.Plain.{row_text}
use Rattle.desk_seats.specs.contracts.seat.SeatObserver.TheImpl.{watch-value}
use Rattle.plain_world.specs.Documents.{cells_of}
use Rattle.desk_world.specs.Plain.{plain_of}
use Rattle.desk_world.proofs.Saved.{saved_below}
use Rattle.desk_world.proofs.saving.World+Seat+B.push_node_rows.Given as goal

abbrev pub invariant-loop-id : goal.invariant-loop-id
invariant-loop-id g l =
    let w = (watch-value g.row.B g.B.Observer g.B.Observer-dict g.B.Destruct-dict).it in
    l.out.items
    ≡ saved_below l.self.graph.graph.graph Node
    (λ id. row_text (cells_of (plain_of w l.self) Node id)) l.fn.out.items l.id
