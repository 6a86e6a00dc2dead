use Rattle.plain_certificates.proofs.Sides.{cuts_are_largest}
use Rattle.plain_certificates.proofs.laws.cut_is_largest.Goals as goal

pub returns : goal.returns
returns c = cuts_are_largest
