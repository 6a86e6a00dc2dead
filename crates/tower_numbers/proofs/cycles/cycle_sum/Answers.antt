use Rattle.std.proofs.Common.{arith}
use Rattle.std.proofs.lemmas.Int.{ints}
use Rattle.static_digraph.specs.Fixed.{graph_of}
use Rattle.tower_numbers.proofs.Along.{cycle_members, cycle_fits}
use Rattle.tower_numbers.proofs.cycles.cycle_sum.Goals as goal

pub cost_along-requires-clause-inside : goal.cost_along-requires-clause-inside
cost_along-requires-clause-inside c i below =
    let all = c.requires.values in
    let inside = cycle_members (graph_of c.args.g.now) c.args.cycle.now c.requires.cycle i below in
    omega (arith, inside, all)

pub overflow_cast-result : goal.overflow_cast-result
overflow_cast-result c =
    let fits = cycle_fits (graph_of c.args.g.now) c.args.values.now c.args.cycle.now
    c.requires.cycle c.requires.values c.requires.small
    (omega (arith, c.arc_count.ensures.count, c.arc_count.ensures.few)) in
    let low = fits.0 in
    let high = fits.1 in
    let is = c.cost_along.ensures in
    omega (arith, ints, low, high, is)

pub returns : goal.returns
returns c =
    let fits = cycle_fits (graph_of c.args.g.now) c.args.values.now c.args.cycle.now
    c.requires.cycle c.requires.values c.requires.small
    (omega (arith, c.arc_count.ensures.count, c.arc_count.ensures.few)) in
    let low = fits.0 in
    let high = fits.1 in
    let is = c.cost_along.ensures in
    omega (arith, ints, low, high, is)
