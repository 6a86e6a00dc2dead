use Rattle.std.proofs.Common.{◌*ℤ◌, FitsSigned, w64, rules, arith}
use Rattle.std.specs.Int.{w128}
use Rattle.std.proofs.lemmas.Int.{ints, to_z-of_z}
use Rattle.task_bounds.proofs.Summing.{product_small}
use Rattle.task_bounds.proofs.sums.product.Goals as goal

pub returns-clause-small : goal.returns-clause-small
returns-clause-small c =
    let cost = c.args.cost in
    let flow = c.args.flow in
    let cost_fits : FitsSigned w64 cost = search rules in
    let flow_fits : FitsSigned w64 flow = search rules in
    let cost_wide : FitsSigned w128 cost = omega (arith, ints, cost_fits) in
    let flow_wide : FitsSigned w128 flow = omega (arith, ints, flow_fits) in
    let small = product_small cost flow c.requires (omega (arith, ints, flow_fits))
    (omega (arith, ints, flow_fits)) in
    let low = small.0 in
    let high = small.1 in
    let fits : FitsSigned w128 (cost *ℤ flow) = omega (arith, ints, low, high) in
    rw (
      to_z-of_z w64 cost cost_fits,
      to_z-of_z w64 flow flow_fits,
      to_z-of_z w128 cost cost_wide,
      to_z-of_z w128 flow flow_wide,
      to_z-of_z w128 (cost *ℤ flow) fits,
    ) small
