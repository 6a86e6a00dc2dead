use Rattle.std.proofs.Common.{pos, arith}
use Rattle.std.proofs.lemmas.Int.{ints}
use Rattle.plain_certificates.specs.Tables.{at}
use Rattle.task_bounds.proofs.Summing.{along-next}
use Rattle.task_bounds.proofs.sums.cost_along.Goals as goal

pub loop-i-preserved : goal.loop-i-preserved
loop-i-preserved c =
    let was = c.loop-i.invariant in
    let i = c.loop-i.i in
    let is = was.is in
    let low = was.low in
    let high = was.high in
    let part = c.widened-total.ensures in
    let inside = c.requires.inside i (omega arith) in
    let small = c.requires.small (at 0 c.args.arcs.now i) inside in
    let part_low = small.0 in
    let part_high = small.1 in
    let next = along-next (at (pos 0) c.args.cost.now) c.args.arcs.now i (omega arith) in
    record {
      is = omega (arith, ints, is, low, high, part, part_low, part_high, next);
      low = omega (arith, ints, low, high, part, part_low, part_high);
      high = omega (arith, ints, low, high, part, part_low, part_high);
    }
