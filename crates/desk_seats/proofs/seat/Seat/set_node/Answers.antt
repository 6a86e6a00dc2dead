use Rattle.observe_core.specs.Held.{KeptNodes}
use Rattle.desk_seats.specs.Forms.{nodes_form}
use Rattle.desk_seats.proofs.Fitting.{marked_fit}
use Rattle.desk_seats.proofs.seat.Seat.set_node.Goals as goal

pub returns-clause-fits : goal.returns-clause-fits
returns-clause-fits g c =
    rw c.in-KeptNodes.is (marked_fit nodes_form KeptNodes _ _ _ _ _ c.set.ensures)
