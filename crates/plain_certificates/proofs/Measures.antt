-- Measures that fall: gaps, and pairs of which the first number decides.
use Rattle.std.proofs.Common.{◌≡◌, ◌⊎◌, inl, inr, ℕ, ◌+◌, ◌*◌, ◌<◌, ◌≤◌, ℤ, pos, negsuc, neg_ℤ}
use Rattle.std.proofs.Common.{◌+ℤ◌, ◌-ℤ◌, ◌≤ℤ◌, ◌<ℤ◌, ap, arith}
use Rattle.std.proofs.Math.Nat.{mul-le-mul_left}
use Rattle.std.proofs.lemmas.Int.{ints}
use Rattle.std.specs.Int.{int_gap}
use Rattle.plain_certificates.specs.Measures.{height}

-- a pair whose first number falls, or stays while the second falls
pub pair_falls : (w a b a' b' : ℕ) → b' < w → (a' < a) ⊎ ((a' ≡ a) × (b' < b))
    → a' * w + b' < a * w + b
pair_falls w a b a' b' small (inl lt) =
    let l : a' + 1 ≤ a = omega (arith, lt) in
    let h = mul-le-mul_left w l in
    omega (arith, h, small)
pair_falls w a b a' b' small (inr e) = rw e.0 (omega (arith, e.1))

pub gap_is : (x y : ℤ) → x ≤ℤ y → pos (int_gap x y) ≡ y -ℤ x
gap_is (pos a) (pos b) h = omega (arith, ints)
gap_is (pos a) (negsuc b) h = omega (arith, ints)
gap_is (negsuc a) (pos b) h = omega (arith, ints)
gap_is (negsuc a) (negsuc b) h = omega (arith, ints)

-- a number is at most another and its gap above it
pub gap_spans : (x y : ℤ) → y ≤ℤ (x +ℤ pos (int_gap x y))
gap_spans (pos a) (pos b) = omega (arith, ints)
gap_spans (pos a) (negsuc b) = omega (arith, ints)
gap_spans (negsuc a) (pos b) = omega (arith, ints)
gap_spans (negsuc a) (negsuc b) = omega (arith, ints)

-- what stays above its floor and falls
pub gap_falls : (floor x y : ℤ) → floor ≤ℤ x → x <ℤ y → int_gap floor x < int_gap floor y
gap_falls floor x y low lt =
    let a = gap_is floor x low in
    let b = gap_is floor y (omega (arith, ints, low, lt)) in
    omega (arith, ints, a, b, lt)

-- the cost falls, or stays while the sum falls
pub height_falls : (floor reach cost sum cost' sum' : ℤ) → floor ≤ℤ cost'
    → neg_ℤ reach ≤ℤ sum' → sum' ≤ℤ reach
    → (cost' <ℤ cost) ⊎ ((cost' ≡ cost) × (sum' <ℤ sum))
    → height floor reach cost' sum' < height floor reach cost sum
unfolding height
height_falls floor reach cost sum cost' sum' low least most falls =
    pair_falls (2 * int_gap (pos 0) reach + 1)
    (int_gap floor cost) (int_gap (neg_ℤ reach) sum)
    (int_gap floor cost') (int_gap (neg_ℤ reach) sum')
    (let high : pos 0 ≤ℤ reach = omega (arith, ints, least, most) in
    let a = gap_is (neg_ℤ reach) sum' least in
    let b = gap_is (pos 0) reach high in
    omega (arith, ints, a, b, most))
    (elim falls [
      | inl lt ↦ inl (gap_falls floor cost' cost low lt)
      | inr e ↦ inr (ap (int_gap floor) e.0, gap_falls (neg_ℤ reach) sum' sum least e.1)
    ])
