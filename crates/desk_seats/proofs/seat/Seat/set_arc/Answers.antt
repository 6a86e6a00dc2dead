use Rattle.observe_core.specs.Held.{KeptArcs}
use Rattle.desk_seats.specs.Forms.{arcs_form}
use Rattle.desk_seats.proofs.Fitting.{marked_fit}
use Rattle.desk_seats.proofs.seat.Seat.set_arc.Goals as goal

pub returns-clause-fits : goal.returns-clause-fits
returns-clause-fits g c =
    rw c.in-KeptArcs.is (marked_fit arcs_form (KeptArcs _) _ _ _ _ _ c.set.ensures)
