use Rattle.std.proofs.Common.{◌+◌, ◌≤ℤ◌, ◌<ℤ◌, FitsSigned, w64, rules, refl, sym, subst, arith}
use Rattle.std.proofs.lemmas.Int.{ints, to_z-of_z}
use Rattle.lane_kernels.specs.Least.{IsFirstLeast, reduced_at, every_place}
use Rattle.lane_kernels.proofs.LeastLemmas.{kept_least, new_least}
use Rattle.lane_kernels.proofs.reduced.look.Goals as goal

pub returns-then-cost-least : goal.returns-then-cost-least
returns-then-cost-least c =
    let value = reduced_at c.args.costs.now c.args.from_pi.now c.args.to_pi.now in
    let cost = c.reduced-cost.result in
    let at = c.args.at in
    let fits : FitsSigned w64 cost = search rules in
    let read = to_z-of_z w64 cost fits in
    let best = to_z-of_z w64 c.args.least c.ranges.least in
    let below : cost <ℤ c.args.least = omega (arith, ints, read, best, c.if-cost-least.true) in
    subst (IsFirstLeast value every_place (at + 1) at) (sym read)
    (new_least value every_place c.args.place c.args.least at (at + 1) cost refl c.requires.least
    refl (sym c.reduced-cost.ensures) below)

pub returns : goal.returns
returns c =
    let value = reduced_at c.args.costs.now c.args.from_pi.now c.args.to_pi.now in
    let at = c.args.at in
    let fits : FitsSigned w64 c.reduced-cost.result = search rules in
    let read = to_z-of_z w64 c.reduced-cost.result fits in
    let best = to_z-of_z w64 c.args.least c.ranges.least in
    let above : c.args.least ≤ℤ value at =
    omega (arith, ints, read, best, c.if-cost-least.false, c.reduced-cost.ensures) in
    subst (IsFirstLeast value every_place (at + 1) c.args.place) (sym best)
    (kept_least value every_place c.args.place c.args.least at (at + 1) refl c.requires.least above)
