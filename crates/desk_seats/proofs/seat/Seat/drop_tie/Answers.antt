use Rattle.desk_seats.specs.Forms.{ties_form}
use Rattle.desk_seats.proofs.Fitting.{fewer_fit}
use Rattle.desk_seats.proofs.seat.Seat.drop_tie.Goals as goal

pub returns-clause-fits : goal.returns-clause-fits
returns-clause-fits g c =
    rw c.in-Ties.is (fewer_fit ties_form _ _ _ c.drop_tie.ensures)
