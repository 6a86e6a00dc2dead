use Rattle.plain_certificates.proofs.Duals.{heaviest_is_largest}
use Rattle.plain_certificates.proofs.laws.heaviest_is_largest.Goals as goal

pub returns : goal.returns
returns c = heaviest_is_largest
