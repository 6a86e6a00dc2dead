use Rattle.observe_core.specs.Held.{Ints}
use Rattle.desk_seats.specs.Forms.{ints_form}
use Rattle.desk_seats.proofs.Fitting.{values_fit}
use Rattle.desk_seats.proofs.seat.Seat.set_int.Goals as goal

pub returns-clause-fits : goal.returns-clause-fits
returns-clause-fits g c =
    rw c.in-Ints.is (values_fit ints_form Ints _ _ _ c.set.ensures)
