use Rattle.std.proofs.Common.{◌+◌, pos, get_or, w64, FitsSigned, rules}
use Rattle.std.proofs.Common.{arith}
use Rattle.std.proofs.lemmas.Int.{ints, to_z-of_z}
use Rattle.lane_kernels.proofs.SumLemmas.{total-four}
use Rattle.lane_kernels.proofs.sums.raise_four.Goals as goal

pub returns-clause-sum : goal.returns-clause-sum
returns-clause-sum c =
    let vs = c.args.values.now in
    let i = c.args.at in
    let t = total-four vs i c.requires in
    let first : FitsSigned w64 (get_or vs i (pos 0)) = search rules in
    let second : FitsSigned w64 (get_or vs (i + 1) (pos 0)) = search rules in
    let third : FitsSigned w64 (get_or vs (i + 2) (pos 0)) = search rules in
    let fourth : FitsSigned w64 (get_or vs (i + 3) (pos 0)) = search rules in
    let a = to_z-of_z w64 (get_or vs i (pos 0)) first in
    let b = to_z-of_z w64 (get_or vs (i + 1) (pos 0)) second in
    let d = to_z-of_z w64 (get_or vs (i + 2) (pos 0)) third in
    let e = to_z-of_z w64 (get_or vs (i + 3) (pos 0)) fourth in
    omega (
      arith,
      ints,
      t,
      a,
      b,
      d,
      e,
      c.raise.ensures,
      c.raise-2.ensures,
      c.raise-3.ensures,
      c.raise-4.ensures,
    )
