use Rattle.std.proofs.Common.{◌≡◌, ◌-◌, ◌≤◌, length, map, take}
use Rattle.plain_world.specs.Replies.{snap_line}
use Rattle.desk_seats.specs.contracts.seat.SeatObserver.TheImpl.{watch-value}
use Rattle.desk_world.specs.Plain.{plain_of}
use Rattle.desk_world.proofs.snapshots.World+Seat+B.snap_lines.Given as goal

-- there is a line for each snapshot before the place
abbrev pub invariant-loop-place : goal.invariant-loop-place
invariant-loop-place g l =
    let w = (watch-value g.row.B g.B.Observer g.B.Observer-dict g.B.Destruct-dict).it in
    let world = plain_of w l.self in
    (l.lines.items ≡ take l.place (map (snap_line world) world.snapshots))
    × (l.place ≤ length l.self.snapshots.rows)

abbrev pub decreases-loop-place : goal.decreases-loop-place
decreases-loop-place g l = length l.self.snapshots.rows - l.place
