use Rattle.std.proofs.Common.{◌+◌, ◌≤ℤ◌, rules}
use Rattle.lane_kernels.specs.Least.{reduced_at, every_place}
use Rattle.lane_kernels.proofs.LeastLemmas.{kept_four}
use Rattle.lane_kernels.proofs.reduced.pass.Goals as goal

pub returns-clause-least : goal.returns-clause-least
returns-clause-least c =
    let value = reduced_at c.args.costs.now c.args.from_pi.now c.args.to_pi.now in
    let at = c.args.at in
    let above : (c.args.least ≤ℤ value at) × (c.args.least ≤ℤ value (at + 1))
    × (c.args.least ≤ℤ value (at + 2)) × (c.args.least ≤ℤ value (at + 3)) = search rules in
    kept_four value every_place c.args.place c.args.least at c.requires.least above
