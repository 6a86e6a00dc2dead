-- The world that a run hands back.
use Rattle.std.specs.Prelude.{Option, None, Some}
use Rattle.desk_seats.specs.declared.seat.Seat.{Seat}
use Rattle.desk_world.specs.declared.world.World.{World}
use Rattle.lemon_desk.specs.declared.boxed.Boxed.{Boxed}
use Rattle.desk_seats.specs.declared.seat.Seat.TheVariants as seats
use Rattle.lemon_desk.specs.declared.desk.Final.{Final}
use Rattle.lemon_desk.specs.declared.desk.Final.TheVariants.{Nothing, Desk}

-- The world that is handed back, if any. The arguments are those of boxes.
abbrev pub found_in : {X : Type 0} {V : X → Type 0} → Final X V → Option (World (Seat (Boxed X V)))
found_in Nothing = None
found_in (Desk world) = Some world

-- A guard in its seat.
abbrev pub in_seat : {B : Type 0} → B → Seat B
in_seat guard = seats.Boxed guard
