use Rattle.plain_certificates.proofs.Sides.{barriers_leave_no_flow}
use Rattle.plain_certificates.proofs.laws.barrier_leaves_no_flow.Goals as goal

pub returns : goal.returns
returns c = barriers_leave_no_flow
