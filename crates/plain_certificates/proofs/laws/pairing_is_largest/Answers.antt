use Rattle.plain_certificates.proofs.Pairs.{pairings_are_largest}
use Rattle.plain_certificates.proofs.laws.pairing_is_largest.Goals as goal

pub returns : goal.returns
returns c = pairings_are_largest
