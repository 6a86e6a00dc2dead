use Rattle.std.proofs.Common.{◌≡◌, ◌∙◌, pos, true, FitsSigned, to_z, of_z, w64, sym, ap, rules}
use Rattle.std.proofs.Common.{arith}
use Rattle.std.proofs.Math.ListN.{length-set}
use Rattle.std.proofs.lemmas.Int.{ints, to_z-of_z}
use Rattle.plain_certificates.specs.Pushes.{by_pace}
use Rattle.plain_certificates.specs.Tables.{at}
use Rattle.pace_search.proofs.PaceWalks.{arc_known}
use Rattle.pace_search.specs.Paces.{pace_at}
use Rattle.static_digraph.specs.Fixed.{graph_of}
use Rattle.task_bounds.proofs.Filled.{set_more}
use Rattle.flow_mincost.proofs.LengthCases.{length_same}
use Rattle.flow_mincost.specs.Lengths.{IsLength}
use Rattle.flow_mincost.specs.Rooms.{room}
use Rattle.flow_mincost.proofs.lengths.costs_of.Goals as goal

pub loop-pace-preserved : goal.loop-pace-preserved
loop-pace-preserved c =
    let g = graph_of c.args.g.now in
    let cost = at (pos 0) c.args.cost.now in
    let k = c.loop-pace.pace in
    let pace = pace_at g k in
    let was = c.loop-pace.invariant in
    let all = was.sized in
    let turn = c.loop-pace-test.true in
    let fits : FitsSigned w64 c.length_of.result = search rules in
    let value_fits : FitsSigned w64 c.turned-value.result = search rules in
    let value = c.turned-value.ensures pace (sym c.pace_at-arc.ensures.onward) in
    let count = c.arc_count-paces.ensures.count in
    let small = c.requires.cost.small pace.arc (arc_known g k (omega (arith, turn, count))) in
    let low = small.0 in
    let high = small.1 in
    let read : to_z w64 (of_z w64 (at (pos 0) c.args.cost.now c.pace_at-arc.result.0))
    ≡ cost pace.arc =
    rw c.pace_at-arc.ensures.arc (omega (arith, ints, low, high)) in
    let value_is : to_z w64 (of_z w64 c.turned-value.result) ≡ by_pace pace (cost pace.arc) =
    to_z-of_z w64 c.turned-value.result value_fits ∙ (value ∙ ap (by_pace pace) read) in
    let len = to_z w64 (of_z w64 c.length_of.result) in
    record {
      sized = length-set c.loop-pace.lens.items k len ∙ was.sized;
      each = set_more (pos 0)
          (λ j x. IsLength (room (at 0 c.args.cap.now) (at 0 c.args.sent.now) true (pace_at g j))
          (by_pace (pace_at g j) (cost (pace_at g j).arc)) x)
          c.loop-pace.lens.items k len (omega (arith, all, turn)) was.each
          (length_same c.room_of.result _ _ _ c.length_of.result len
          c.room_of.ensures value_is (to_z-of_z w64 c.length_of.result fits) c.length_of.ensures);
    }
