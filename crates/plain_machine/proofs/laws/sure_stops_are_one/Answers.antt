use Rattle.plain_machine.proofs.Sure.{sure_stops}
use Rattle.plain_machine.proofs.laws.sure_stops_are_one.Goals as goal

pub returns : goal.returns
returns c = sure_stops
