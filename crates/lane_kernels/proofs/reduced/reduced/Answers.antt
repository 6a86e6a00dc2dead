use Rattle.lane_kernels.proofs.ReducedLemmas.{difference_fits_at, reduced_is_at}
use Rattle.lane_kernels.proofs.reduced.reduced.Goals as goal

pub overflow_sub-result : goal.overflow_sub-result
overflow_sub-result c =
    difference_fits_at c.args.costs.now c.args.from_pi.now c.args.to_pi.now c.requires.lengths
    c.requires.small c.args.at c.requires.within

pub returns : goal.returns
returns c = reduced_is_at c.args.costs.now c.args.from_pi.now c.args.to_pi.now c.requires.lengths
    c.requires.small c.args.at c.requires.within
