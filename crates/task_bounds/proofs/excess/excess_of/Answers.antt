use Rattle.std.proofs.Common.{◌≡◌, ◌<◌, ◌∙◌, length, neg_ℤ, pos, ◌+ℤ◌}
use Rattle.std.proofs.Common.{to_z, of_z, w64, ap, arith}
use Rattle.std.proofs.Math.ListN.{length-set, set}
use Rattle.std.proofs.lemmas.Int.{ints}
use Rattle.std.proofs.lemmas.List.{get_or_default}
use Rattle.plain_certificates.specs.Tables.{at}
use Rattle.static_digraph.specs.Fixed.{graph_of}
use Rattle.task_bounds.proofs.Taking.{excess_small, kept_small, kept_sum, taken_all, taken_next}
use Rattle.task_bounds.proofs.Taking.{taken_none, written_small}
use Rattle.task_bounds.proofs.excess.excess_of.Goals as goal

pub loop-arc-init : goal.loop-arc-init
loop-arc-init c =
    let items = c.in_ok-excess.ensures.items in
    record {
      sized = ap length items ∙ c.requires.nodes;
      taken =
          rw items (taken_none (graph_of c.args.g.now) (at (pos 0) c.args.lower.now)
          (at (pos 0) c.args.supply.now)
          (λ v l. (let all = c.requires.nodes in c.requires.supply v (omega (arith, l, all)))));
    }

pub minus-requires-clause-excess : goal.minus-requires-clause-excess
minus-requires-clause-excess c =
    let g = graph_of c.args.g.now in
    let was = c.loop-arc.invariant in
    let xs = c.loop-arc.excess.items in
    let few = c.arc_count-count.ensures.few in
    let count = c.arc_count-count.ensures.count in
    let ends = c.arc_count-count.ensures.ends c.loop-arc.arc (omega (arith, count)) in
    let sized = was.sized in
    let from = c.ends-from.ensures.from in
    let inside = ends.0 in
    let is = c.index.ensures
    ∙ get_or_default xs c.ends-from.result.0 c.index.result.now (pos 0)
    (omega (arith, from, inside, sized)) in
    let small = excess_small g c.loop-arc.arc (at (pos 0) xs) c.ends-from.result.0
    (omega (arith, few)) was.taken.light (omega (arith, from, inside)) in
    let low = small.0 in
    let high = small.1 in
    (omega (arith, ints, is, low, high), omega (arith, ints, is, low, high))

pub plus-requires-clause-excess : goal.plus-requires-clause-excess
plus-requires-clause-excess c =
    let g = graph_of c.args.g.now in
    let was = c.loop-arc.invariant in
    let arc = c.loop-arc.arc in
    let xs = c.loop-arc.excess.items in
    let a = c.ends-from.result.0 in
    let b = c.ends-from.result.1 in
    let m = to_z w64 (of_z w64 c.minus.result) in
    let few = c.arc_count-count.ensures.few in
    let count = c.arc_count-count.ensures.count in
    let ends = c.arc_count-count.ensures.ends arc (omega (arith, count)) in
    let sized = was.sized in
    let from = c.ends-from.ensures.from in
    let to = c.ends-from.ensures.to in
    let from_in = ends.0 in
    let to_in = ends.1 in
    let arcs = c.requires.arcs in
    let lower = c.requires.lower arc (omega (arith, count, arcs)) in
    let lower_low = lower.0 in
    let lower_high = lower.1 in
    let is = c.index.ensures
    ∙ get_or_default xs a c.index.result.now (pos 0) (omega (arith, from, from_in, sized)) in
    let small = excess_small g arc (at (pos 0) xs) a (omega (arith, few)) was.taken.light
    (omega (arith, from, from_in)) in
    let low = small.0 in
    let high = small.1 in
    let less = c.minus.ensures in
    let all = length-set xs a m in
    let written = written_small xs a b m (omega (arith, from, from_in, sized)) (
      omega (arith, ints, is, low, high, less, lower_low, lower_high),
      omega (arith, ints, is, low, high, less, lower_low, lower_high),
    )
    (excess_small g arc (at (pos 0) xs) b (omega (arith, few)) was.taken.light
    (omega (arith, to, to_in))) in
    let here = c.index-in-loop-arc.ensures
    ∙ get_or_default (set xs a m) b c.index-in-loop-arc.result.now (pos 0)
    (omega (arith, to, to_in, sized, all)) in
    kept_small c.index-in-loop-arc.result.now (at (pos 0) (set xs a m) b) here written

pub loop-arc-preserved : goal.loop-arc-preserved
loop-arc-preserved c =
    let g = graph_of c.args.g.now in
    let was = c.loop-arc.invariant in
    let arc = c.loop-arc.arc in
    let xs = c.loop-arc.excess.items in
    let a = c.ends-from.result.0 in
    let b = c.ends-from.result.1 in
    let m = to_z w64 (of_z w64 c.minus.result) in
    let p = to_z w64 (of_z w64 c.plus.result) in
    let few = c.arc_count-count.ensures.few in
    let count = c.arc_count-count.ensures.count in
    let inside : arc < g.arcs = omega (arith, count) in
    let ends = c.arc_count-count.ensures.ends arc inside in
    let sized = was.sized in
    let from = c.ends-from.ensures.from in
    let to = c.ends-from.ensures.to in
    let from_in = ends.0 in
    let to_in = ends.1 in
    let arcs = c.requires.arcs in
    let lower = c.requires.lower arc (omega (arith, inside, arcs)) in
    let lower_low = lower.0 in
    let lower_high = lower.1 in
    let is = c.index.ensures
    ∙ get_or_default xs a c.index.result.now (pos 0) (omega (arith, from, from_in, sized)) in
    let small = excess_small g arc (at (pos 0) xs) a (omega (arith, few)) was.taken.light
    (omega (arith, from, from_in)) in
    let low = small.0 in
    let high = small.1 in
    let less = c.minus.ensures in
    let all = length-set xs a m in
    let written = written_small xs a b m (omega (arith, from, from_in, sized)) (
      omega (arith, ints, is, low, high, less, lower_low, lower_high),
      omega (arith, ints, is, low, high, less, lower_low, lower_high),
    )
    (excess_small g arc (at (pos 0) xs) b (omega (arith, few)) was.taken.light
    (omega (arith, to, to_in))) in
    let here = c.index-in-loop-arc.ensures
    ∙ get_or_default (set xs a m) b c.index-in-loop-arc.result.now (pos 0)
    (omega (arith, to, to_in, sized, all)) in
    let more = c.plus.ensures in
    let m_is : m ≡ at (pos 0) xs a +ℤ neg_ℤ (at (pos 0) c.args.lower.now arc) =
    omega (arith, ints, is, low, high, less, lower_low, lower_high) in
    let p_is : p ≡ at (pos 0) (set xs a m) b +ℤ at (pos 0) c.args.lower.now arc =
    kept_sum c.index-in-loop-arc.result.now (at (pos 0) (set xs a m) b)
    (at (pos 0) c.args.lower.now arc) c.plus.result here written lower more in
    record {
      sized = length-set (set xs a m) b p ∙ (all ∙ was.sized);
      taken =
          rw (from, to) (taken_next g (at (pos 0) c.args.lower.now) (at (pos 0) c.args.supply.now)
          xs arc
          m p c.arc_count-count.ensures.ends inside was.sized lower was.taken (rw from at m_is)
          (rw (from, to) at p_is));
    }

pub returns-clause-taken : goal.returns-clause-taken
returns-clause-taken c =
    let out = c.loop-arc-test.false in
    let end = c.loop-arc.auto.arc-end in
    let count = c.arc_count-count.ensures.count in
    taken_all (graph_of c.args.g.now) (at (pos 0) c.args.lower.now) (at (pos 0) c.args.supply.now)
    (at (pos 0) c.loop-arc.excess.items) c.loop-arc.arc (omega (arith, out, end, count))
    c.loop-arc.invariant.taken
