use Rattle.std.proofs.Common.{arith}
use Rattle.index_maps.specs.DegreeViews.{ends_of_degree}
use Rattle.index_maps.proofs.DegreeLemmas.{few-ends}
use Rattle.index_maps.proofs.degree.DegreeObserver.add.Goals as goal

pub raise-requires-clause-small : goal.raise-requires-clause-small
raise-requires-clause-small c =
    let self = c.args.self.now in
    let w = few-ends self.out (ends_of_degree self) c.requires.live c.end-node.result
    c.requires.is_live c.requires.fits.held in
    omega (arith, w)
