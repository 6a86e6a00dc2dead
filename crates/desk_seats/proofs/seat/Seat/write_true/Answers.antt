use Rattle.observe_core.specs.Held.{Trues}
use Rattle.desk_seats.specs.Forms.{trues_form}
use Rattle.desk_seats.proofs.Fitting.{values_fit}
use Rattle.desk_seats.proofs.seat.Seat.write_true.Goals as goal

pub returns-clause-fits : goal.returns-clause-fits
returns-clause-fits g c =
    rw c.in-Trues.is (values_fit trues_form Trues _ _ _ c.write.ensures)
