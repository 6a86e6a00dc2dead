-- How far a state is from the last one, by two integers of which the first decides.
use Rattle.std.specs.Prelude.{ℕ, ◌+◌, ◌*◌, ℤ, pos, neg_ℤ}
use Rattle.std.specs.Int.{int_gap}

-- first by how far the cost is above its floor, then by the sum, whose size is within the reach
unfoldable pub height : ℤ → ℤ → ℤ → ℤ → ℕ
height floor reach cost sum =
    int_gap floor cost * (2 * int_gap (pos 0) reach + 1) + int_gap (neg_ℤ reach) sum
