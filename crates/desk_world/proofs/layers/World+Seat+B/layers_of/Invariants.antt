use Rattle.std.proofs.Common.{◌-◌, length}
use Rattle.plain_views.specs.Renaming.{renamed}
use Rattle.desk_seats.specs.contracts.seat.SeatObserver.TheImpl.{watch-value}
use Rattle.desk_world.specs.MapNumbers.{number_of}
use Rattle.desk_world.specs.Plain.{plain_of}
use Rattle.desk_world.proofs.Layered.{Gathers}
use Rattle.desk_world.proofs.layers.World+Seat+B.layers_of.Given as goal

abbrev pub invariant-down : goal.invariant-down
invariant-down g l =
    let w = (watch-value g.row.B g.B.Observer g.B.Observer-dict g.B.Destruct-dict).it in
    let world = plain_of w l.self in
    Gathers world.views (renamed (number_of world)) l.fn.view l.layers.items l.name

abbrev pub decreases-down : goal.decreases-down
decreases-down g l = 8 - length l.layers.items
