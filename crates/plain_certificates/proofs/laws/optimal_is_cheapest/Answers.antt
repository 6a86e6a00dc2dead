use Rattle.plain_certificates.proofs.Costs.{optimal_is_cheapest}
use Rattle.plain_certificates.proofs.laws.optimal_is_cheapest.Goals as goal

pub returns : goal.returns
returns c = optimal_is_cheapest
