use Rattle.std.proofs.Common.{◌≡◌, ◌<◌, ◌+◌, ◌∙◌, ℤ, pos, ◌+ℤ◌, length, get_or, to_z, of_z, w64, ap}
use Rattle.std.proofs.Common.{rules, arith, FitsSigned, refl}
use Rattle.std.specs.Int.{w128}
use Rattle.std.proofs.lemmas.Int.{ints, to_z-of_z}
use Rattle.lane_kernels.proofs.SumLemmas.{total-front}
use Rattle.lane_kernels.proofs.sums.sum_i64.Goals as goal

pub loop-at-preserved : goal.loop-at-preserved
loop-at-preserved c =
    let was = c.loop-at.invariant in
    let vs = c.args.values.now in
    let at = c.loop-at.at in
    let s : ℤ = to_z w128 c.loop-at.sum-bits in
    let v : ℤ = get_or vs at (pos 0) in
    let l : at < length vs = omega arith in
    let f : FitsSigned w64 v = search rules in
    let e1 : to_z w64 (of_z w64 v) ≡ v = to_z-of_z w64 v f in
    let wide : FitsSigned w128 v = omega (arith, ints, f) in
    let e2 : to_z w128 (of_z w128 (to_z w64 (of_z w64 v))) ≡ v =
    ap (λ x. to_z w128 (of_z w128 x)) e1 ∙ to_z-of_z w128 v wide in
    let sum_fits : FitsSigned w128 (s +ℤ v) =
    omega (arith, ints, f, was.low, was.high, c.requires, l) in
    let e : to_z w128 (of_z w128 (s +ℤ to_z w128 (of_z w128 (to_z w64 (of_z w64 v))))) ≡ s +ℤ v =
    ap (λ x. to_z w128 (of_z w128 (s +ℤ x))) e2 ∙ to_z-of_z w128 (s +ℤ v) sum_fits in
    let t = total-front vs at (at + 1) refl l in
    record {
      within = omega arith;
      low = omega (arith, ints, e, f, was.low);
      high = omega (arith, ints, e, f, was.high);
      summed = omega (arith, ints, e, t, was.summed);
    }
