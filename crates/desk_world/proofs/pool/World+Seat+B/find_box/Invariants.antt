use Rattle.std.proofs.Common.{◌≡◌, ◌-◌, false, take, vec_len, ◌≤◌}
use Rattle.std.specs.List.{list_any}
use Rattle.plain_world.specs.Refusals.{is_kind}
use Rattle.desk_seats.specs.contracts.seat.SeatObserver.TheImpl.{watch-value}
use Rattle.desk_world.specs.Plain.{kinds_of}
use Rattle.desk_world.proofs.pool.World+Seat+B.find_box.Given as goal

-- no box before the place is of the kind
abbrev pub invariant-loop-place : goal.invariant-loop-place
invariant-loop-place g l =
    let w = (watch-value g.row.B g.B.Observer g.B.Observer-dict g.B.Destruct-dict).it in
    (list_any (is_kind l.kind) (take l.place (kinds_of w l.self.pool.items)) ≡ false)
    × (l.place ≤ vec_len l.self.pool)

abbrev pub decreases-loop-place : goal.decreases-loop-place
decreases-loop-place g l = vec_len l.self.pool - l.place
