use Rattle.plain_certificates.proofs.Duals.{assigned_is_cheapest}
use Rattle.plain_certificates.proofs.laws.assigned_is_cheapest.Goals as goal

pub returns : goal.returns
returns c = assigned_is_cheapest
