use Rattle.std.proofs.Common.{◌+◌, ◌≤ℤ◌, rules}
use Rattle.lane_kernels.specs.Least.{value_at, is_live_at}
use Rattle.lane_kernels.proofs.LeastLemmas.{kept_four}
use Rattle.lane_kernels.proofs.least.pass.Goals as goal

pub returns-clause-least : goal.returns-clause-least
returns-clause-least c =
    let vs = c.args.values.now in
    let at = c.args.at in
    let above : (c.args.least ≤ℤ value_at vs at) × (c.args.least ≤ℤ value_at vs (at + 1))
    × (c.args.least ≤ℤ value_at vs (at + 2)) × (c.args.least ≤ℤ value_at vs (at + 3)) =
    search rules in
    kept_four (value_at vs) (is_live_at c.args.live.now) c.args.place c.args.least at
    c.requires.least above
