use Rattle.std.proofs.Common.{◌≤ℤ◌, ◌<◌, ◌≤◌, pos, length, w64, arith}
use Rattle.std.proofs.lemmas.Int.{ints, to_z-of_z}
use Rattle.std.proofs.lemmas.List.{take_all}
use Rattle.std.proofs.lemmas.List.Elements.{All-more}
use Rattle.query_tests.proofs.tasks.are_within.Goals as goal

pub on-preserved : goal.on-preserved
on-preserved c =
    let was = c.on.invariant in
    let xs = c.args.lengths.now in
    let at = c.on.at in
    let low_is = to_z-of_z w64 c.args.low c.ranges.low in
    let high_is = to_z-of_z w64 c.args.high c.ranges.high in
    let inside : at < length xs = omega (arith, c.on-test.true) in
    record {
      within = omega (arith, inside);
      low = rw low_is (All-more (λ x. c.args.low ≤ℤ x) xs at (pos 0) inside
          (rw low_is at was.low) (grind (arith, ints, c.if-lengths-at.false)));
      high = rw high_is (All-more (λ x. x ≤ℤ c.args.high) xs at (pos 0) inside
          (rw high_is at was.high) (grind (arith, ints, c.if-lengths-at-2.false)));
    }

pub returns-clause-low : goal.returns-clause-low
returns-clause-low c is =
    let xs = c.args.lengths.now in
    let end : length xs ≤ c.on.at = omega (arith, c.on-test.false) in
    rw (to_z-of_z w64 c.args.low c.ranges.low, take_all c.on.at xs end)
    at c.on.invariant.low

pub returns-clause-high : goal.returns-clause-high
returns-clause-high c is =
    let xs = c.args.lengths.now in
    let end : length xs ≤ c.on.at = omega (arith, c.on-test.false) in
    rw (to_z-of_z w64 c.args.high c.ranges.high, take_all c.on.at xs end)
    at c.on.invariant.high
