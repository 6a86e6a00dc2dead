use Rattle.plain_certificates.proofs.Distances.{negative_cycles_leave_no_least}
use Rattle.plain_certificates.proofs.laws.negative_cycle_leaves_no_least.Goals as goal

pub returns : goal.returns
returns c = negative_cycles_leave_no_least
