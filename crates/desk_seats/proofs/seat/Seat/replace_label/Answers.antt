use Rattle.observe_core.specs.Held.{Labels}
use Rattle.desk_seats.specs.Forms.{labels_form}
use Rattle.desk_seats.proofs.Fitting.{values_fit}
use Rattle.desk_seats.proofs.seat.Seat.replace_label.Goals as goal

pub returns-clause-fits : goal.returns-clause-fits
returns-clause-fits g c =
    rw c.in-Refs.is (values_fit labels_form Labels _ _ _ c.replace.ensures.seen)
