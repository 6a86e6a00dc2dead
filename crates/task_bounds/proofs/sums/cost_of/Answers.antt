use Rattle.std.proofs.Common.{pos, ◌*ℤ◌, FitsSigned, get_or, w64, rules, arith}
use Rattle.std.proofs.lemmas.Int.{ints, to_z-of_z}
use Rattle.plain_certificates.specs.Tables.{at}
use Rattle.task_bounds.proofs.Summing.{sum_to-next}
use Rattle.task_bounds.proofs.sums.cost_of.Goals as goal

pub loop-k-preserved : goal.loop-k-preserved
loop-k-preserved c =
    let was = c.loop-k.invariant in
    let is = was.is in
    let low = was.low in
    let high = was.high in
    let few = c.requires.few in
    let k = c.loop-k.k in
    let cost = get_or c.args.cost.now k (pos 0) in
    let flow = get_or c.args.flow.now k (pos 0) in
    let cost_fits : FitsSigned w64 cost = search rules in
    let flow_fits : FitsSigned w64 flow = search rules in
    let part = rw (to_z-of_z w64 cost cost_fits, to_z-of_z w64 flow flow_fits) at
    c.product-total.ensures.is in
    let part_low = c.product-total.ensures.small.0 in
    let part_high = c.product-total.ensures.small.1 in
    let next = sum_to-next c.loop-k.k
    (λ j. at (pos 0) c.args.cost.now j *ℤ at (pos 0) c.args.flow.now j) in
    record {
      is = omega (arith, ints, is, low, high, few, part, part_low, part_high, next);
      low = omega (arith, ints, low, high, few, part_low, part_high);
      high = omega (arith, ints, low, high, few, part_low, part_high);
    }
