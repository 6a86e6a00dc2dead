use Rattle.observe_core.specs.Held.{Texts}
use Rattle.desk_seats.specs.Forms.{texts_form}
use Rattle.desk_seats.proofs.Fitting.{values_fit}
use Rattle.desk_seats.proofs.seat.Seat.set_text.Goals as goal

pub returns-clause-fits : goal.returns-clause-fits
returns-clause-fits g c =
    rw c.in-Texts.is (values_fit texts_form Texts _ _ _ c.set.ensures.seen)
