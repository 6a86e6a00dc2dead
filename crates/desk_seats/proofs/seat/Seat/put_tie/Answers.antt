use Rattle.desk_seats.specs.Forms.{ties_form}
use Rattle.desk_seats.proofs.Fitting.{either_fits}
use Rattle.desk_seats.proofs.seat.Seat.put_tie.Goals as goal

pub returns-clause-fits : goal.returns-clause-fits
returns-clause-fits g c =
    rw c.in-Ties.is (either_fits ties_form _ _ c.put.result _ c.put.ensures.ok c.put.ensures.err)
