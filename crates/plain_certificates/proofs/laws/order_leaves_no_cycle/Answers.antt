use Rattle.plain_certificates.proofs.Ratios.{orders_leave_no_cycle}
use Rattle.plain_certificates.proofs.laws.order_leaves_no_cycle.Goals as goal

pub returns : goal.returns
returns c = orders_leave_no_cycle
