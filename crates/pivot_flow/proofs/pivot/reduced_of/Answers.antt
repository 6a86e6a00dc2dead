use Rattle.std.proofs.Common.{arith}
use Rattle.std.proofs.lemmas.Int.{ints}
use Rattle.pivot_flow.proofs.pivot.reduced_of.Goals as goal

pub returns-clause-is : goal.returns-clause-is
returns-clause-is c =
    let k = c.requires.arc.0 in
    let ends = c.requires.shape c.args.e k in
    let a = c.requires.cost in
    let p = c.requires.prices _ ends.0 in
    let q = c.requires.prices _ ends.1 in
    omega (arith, ints, a, p, q)

pub returns-clause-small : goal.returns-clause-small
returns-clause-small c =
    let k = c.requires.arc.0 in
    let ends = c.requires.shape c.args.e k in
    let a = c.requires.cost in
    let p = c.requires.prices _ ends.0 in
    let q = c.requires.prices _ ends.1 in
    (omega (arith, ints, a, p, q), omega (arith, ints, a, p, q))
