use Rattle.plain_certificates.proofs.Ratios.{means_are_least}
use Rattle.plain_certificates.proofs.laws.mean_is_least.Goals as goal

pub returns : goal.returns
returns c = means_are_least
