-- Bounds on powers.
use Rattle.std.proofs.Common.{ℕ, ◌<◌, ◌≤◌, ◌^◌, arith, lit<}
use Rattle.std.proofs.Math.Nat.{pow-le-pow_right}

-- A number of fewer than seven digits is below a million.
pub seven_digits : (i n : ℕ) → i < 7 → n < 10 ^ i → n < 1000000
seven_digits i n h lt =
    let most : 10 ^ i ≤ 10 ^ 6 = pow-le-pow_right (lit< tt) {i = i} {j = 6} (omega arith) in
    omega arith
