use Rattle.std.proofs.Common.{◌-◌}
use Rattle.desk_seats.specs.contracts.seat.SeatObserver.TheImpl.{watch-value}
use Rattle.desk_world.specs.Plain.{plain_of}
use Rattle.desk_world.proofs.Layered.{Counts}
use Rattle.desk_world.proofs.layers.World+Seat+B.depth.Given as goal

abbrev pub invariant-down : goal.invariant-down
invariant-down g l =
    let w = (watch-value g.row.B g.B.Observer g.B.Observer-dict g.B.Destruct-dict).it in
    Counts (plain_of w l.self).views l.fn.view l.count l.name

abbrev pub decreases-down : goal.decreases-down
decreases-down g l = 8 - l.count
