use Rattle.plain_certificates.proofs.Duals.{short_leaves_no_cover}
use Rattle.plain_certificates.proofs.laws.short_leaves_no_cover.Goals as goal

pub returns : goal.returns
returns c = short_leaves_no_cover
