use Rattle.std.proofs.Common.{pos, false, FitsSigned, get_or, w64, rules, arith}
use Rattle.std.proofs.lemmas.Int.{ints, to_z-of_z}
use Rattle.plain_certificates.specs.Cuts.{enters, leaves}
use Rattle.plain_certificates.specs.Tables.{at}
use Rattle.static_digraph.specs.Fixed.{graph_of}
use Rattle.task_bounds.proofs.Summing.{sum_where-next}
use Rattle.task_bounds.proofs.sums.sum_crossing.Goals as goal

pub loop-arc-preserved : goal.loop-arc-preserved
loop-arc-preserved c =
    let was = c.loop-arc.invariant in
    let g = graph_of c.args.g.now in
    let set = at false c.args.set.now in
    let arc = c.loop-arc.arc in
    let is = was.is in
    let low = was.low in
    let high = was.high in
    let few = c.arc_count-count.ensures.few in
    let part_low = c.crossing_part-total.ensures.small.0 in
    let part_high = c.crossing_part-total.ensures.small.1 in
    let one = get_or c.args.out.now arc (pos 0) in
    let other = get_or c.args.into.now arc (pos 0) in
    let one_fits : FitsSigned w64 one = search rules in
    let other_fits : FitsSigned w64 other = search rules in
    let part = rw (
      to_z-of_z w64 one one_fits,
      to_z-of_z w64 other other_fits,
      c.ends-from.ensures.from,
      c.ends-from.ensures.to,
    ) at c.crossing_part-total.ensures.is in
    let out = sum_where-next arc (leaves g set) (at (pos 0) c.args.out.now) in
    let into = sum_where-next arc (enters g set) (at (pos 0) c.args.into.now) in
    record {
      is = omega (arith, ints, is, low, high, few, part, part_low, part_high, out, into);
      low = omega (arith, ints, low, high, few, part_low, part_high);
      high = omega (arith, ints, low, high, few, part_low, part_high);
    }
