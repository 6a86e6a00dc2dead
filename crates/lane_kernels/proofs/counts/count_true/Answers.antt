use Rattle.std.proofs.Common.{◌≤◌, ◌+◌, false, [], ◌∷◌, get_or, length, arith}
use Rattle.lane_kernels.proofs.CountLemmas.{truths-eight, truths-few}
use Rattle.lane_kernels.proofs.counts.count_true.Goals as goal

pub loop-at-preserved-then-values-at-ge8 : goal.loop-at-preserved-then-values-at-ge8
loop-at-preserved-then-values-at-ge8 c =
    let was = c.loop-at.invariant in
    let vs = c.args.values.now in
    let at = c.loop-at.at in
    let l : at + 8 ≤ length vs = omega (arith, c.if-values-at-ge8.true, c.loop-at-test.true) in
    let e = truths-eight vs at l in
    let r = c.count_eight.ensures in
    let f = truths-few
    (get_or vs at false ∷ get_or vs (at + 1) false ∷ get_or vs (at + 2) false ∷ get_or vs
    (at + 3) false ∷ get_or vs (at + 4) false ∷ get_or vs (at + 5) false ∷ get_or vs (at + 6)
    false ∷ get_or vs (at + 7) false ∷ []) in
    record {
      within = l;
      few = omega (arith, was.few, r, f);
      counted =
          omega (arith, was.counted, e, r);
    }
