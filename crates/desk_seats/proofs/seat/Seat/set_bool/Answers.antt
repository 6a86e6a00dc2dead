use Rattle.observe_core.specs.Held.{Bools}
use Rattle.desk_seats.specs.Forms.{bools_form}
use Rattle.desk_seats.proofs.Fitting.{values_fit}
use Rattle.desk_seats.proofs.seat.Seat.set_bool.Goals as goal

pub returns-clause-fits : goal.returns-clause-fits
returns-clause-fits g c =
    rw c.in-Bools.is (values_fit bools_form Bools _ _ _ c.set.ensures)
