-- Values in range, by the test that finds the first that is outside.
use Rattle.std.proofs.Common.{◌≡◌, ◌^◌, false, ℤ, pos, negsuc, ◌≤ℤ◌}
use Rattle.std.proofs.Common.{List, length, All, subst, arith}
use Rattle.std.specs.Prelude.{nat_lt, int_lt, unsigned_abs}
use Rattle.std.proofs.lemmas.Int.{ints}
use Rattle.std.proofs.lemmas.Bool.Decides.{nat_tests}
use Rattle.std.proofs.lemmas.List.{get_or_default}
use Rattle.plain_certificates.specs.Tables.{at}
use Rattle.task_bounds.specs.Given.{IsValue}
use Rattle.view_numbers.specs.Breaches.{NoneBefore, is_outside, is_under}

-- a number in range isn't outside, and the other way round
value_inside : (x : ℤ) → IsValue x → nat_lt (2 ^ 36) (unsigned_abs x) ≡ false
value_inside (pos n) is = let high = is.1 in grind (arith, ints, nat_tests)
value_inside (negsuc n) is = let low = is.0 in grind (arith, ints, nat_tests)

inside_value : (x : ℤ) → nat_lt (2 ^ 36) (unsigned_abs x) ≡ false → IsValue x
inside_value (pos n) is = (omega (arith, ints), grind (arith, ints, nat_tests))
inside_value (negsuc n) is = (grind (arith, ints, nat_tests), omega (arith, ints))

pub none_outside : (values : List ℤ) → All IsValue values
    → NoneBefore (length values) (is_outside values)
none_outside values small k below = value_inside (at (pos 0) values k) (small k (pos 0) below)

not_under : (x least : ℤ) → int_lt x least ≡ false → least ≤ℤ x
not_under (pos a) (pos b) is = grind (arith, ints, nat_tests)
not_under (pos a) (negsuc b) is = omega (arith, ints)
not_under (negsuc a) (pos b) is = absurd cc
not_under (negsuc a) (negsuc b) is = grind (arith, ints, nat_tests)

-- where no value is below the least, all are at least that
pub none_under : (values : List ℤ) (least : ℤ)
    → NoneBefore (length values) (is_under values least) → All (λ x. least ≤ℤ x) values
none_under values least none k d below =
    subst (λ x. least ≤ℤ x) (get_or_default values k (pos 0) d below)
    (not_under (at (pos 0) values k) least (none k below))
