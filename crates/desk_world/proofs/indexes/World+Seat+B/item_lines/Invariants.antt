use Rattle.std.proofs.Common.{ℕ, ◌-◌}
use Rattle.std.specs.Option.{option_map_or}
use Rattle.plain_world.specs.Replies.{item_line}
use Rattle.desk_seats.specs.Contents.{trues_in}
use Rattle.desk_seats.specs.contracts.seat.SeatObserver.TheImpl.{watch-value}
use Rattle.desk_world.specs.Plain.{plain_of}
use Rattle.desk_world.proofs.TrueItems.{Listing}
use Rattle.desk_world.proofs.indexes.World+Seat+B.item_lines.Given as goal

abbrev pub invariant-items : goal.invariant-items
invariant-items g l =
    let w = (watch-value g.row.B g.B.Observer g.B.Observer-dict g.B.Destruct-dict).it in
    Listing (item_line (plain_of w l.self) l.sort) (trues_in (w l.seat).seen) l.next l.lines.items

-- ids rise, and are below 2^32
abbrev pub decreases-items : goal.decreases-items
decreases-items g l = option_map_or (λ (id : ℕ). 4294967296 - id) l.next 0
