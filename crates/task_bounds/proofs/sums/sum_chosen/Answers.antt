use Rattle.std.proofs.Common.{pos, false, FitsSigned, get_or, w64, rules, arith}
use Rattle.std.proofs.lemmas.Int.{ints, to_z-of_z}
use Rattle.plain_certificates.specs.Tables.{at}
use Rattle.task_bounds.proofs.Summing.{sum_where-next}
use Rattle.task_bounds.proofs.sums.sum_chosen.Goals as goal

pub loop-v-preserved : goal.loop-v-preserved
loop-v-preserved c =
    let was = c.loop-v.invariant in
    let is = was.is in
    let low = was.low in
    let high = was.high in
    let few = c.requires.few in
    let value = get_or c.args.values.now c.loop-v.v (pos 0) in
    let fits : FitsSigned w64 value = search rules in
    let part = rw (to_z-of_z w64 value fits) at c.chosen_part-total.ensures.is in
    let part_low = c.chosen_part-total.ensures.small.0 in
    let part_high = c.chosen_part-total.ensures.small.1 in
    let next = sum_where-next c.loop-v.v (at false c.args.chosen.now)
    (at (pos 0) c.args.values.now) in
    record {
      is = omega (arith, ints, is, low, high, few, part, part_low, part_high, next);
      low = omega (arith, ints, low, high, few, part_low, part_high);
      high = omega (arith, ints, low, high, few, part_low, part_high);
    }
