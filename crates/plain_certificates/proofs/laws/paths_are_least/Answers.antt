use Rattle.plain_certificates.proofs.Distances.{distances_are_least, others_are_unreached}
use Rattle.plain_certificates.proofs.laws.paths_are_least.Goals as goal

pub returns-clause-distances : goal.returns-clause-distances
returns-clause-distances c = distances_are_least

pub returns-clause-others : goal.returns-clause-others
returns-clause-others c = others_are_unreached
