use Rattle.std.proofs.Common.{◌≡◌}
use Rattle.base_items.specs.declared.items.ItemSort.TheVariants.{Arc}
use Rattle.desk_seats.specs.contracts.seat.SeatObserver.TheImpl.{watch-value}
use Rattle.desk_world.specs.Plain.{plain_of}
use Rattle.desk_world.proofs.Saved.{saved_below, arc_text}
use Rattle.desk_world.proofs.saving.World+Seat+B.push_arc_rows.Given as goal

abbrev pub invariant-loop-id : goal.invariant-loop-id
invariant-loop-id g l =
    let w = (watch-value g.row.B g.B.Observer g.B.Observer-dict g.B.Destruct-dict).it in
    l.out.items
    ≡ saved_below l.self.graph.graph.graph Arc (arc_text (plain_of w l.self)) l.fn.out.items l.id
