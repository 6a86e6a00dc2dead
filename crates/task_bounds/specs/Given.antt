-- The bounds and supplies of a task as they are given, and as lists.
use Rattle.std.specs.Prelude.{◌≡◌, ℕ, ◌<◌, ◌≤◌, ◌^◌, ℤ, pos, neg_ℤ, ◌+ℤ◌, ◌≤ℤ◌, List, length, All}
use Rattle.std.specs.Prelude.{Option, None, Some, option_map}
use Rattle.std.specs.Option.{option_map_or}
use Rattle.plain_certificates.specs.Numbered.{Numbered}
use Rattle.plain_certificates.specs.Feasible.{Bounds, IsAtMost}
use Rattle.plain_certificates.specs.Tables.{at}

-- a value that the libraries take
abbrev pub IsValue : ℤ → Type 0
IsValue x = (neg_ℤ (pos (2 ^ 36)) ≤ℤ x) × (x ≤ℤ pos (2 ^ 36))

-- so many values, or none at all
abbrev pub AreGiven : ℕ → Option (List ℤ) → Type 0
AreGiven count None = Unit {0}
AreGiven count (Some values) = (length values ≡ count) × All IsValue values

-- the value at a place, and 0 where none are given
abbrev pub given : Option (List ℤ) → ℕ → ℤ
given values k = option_map_or (λ xs. at (pos 0) xs k) values (pos 0)

-- the upper bound of an arc, and none where none are given
abbrev pub upper_given : Option (List ℤ) → ℕ → Option ℤ
upper_given values k = option_map (λ xs. at (pos 0) xs k) values

-- the bounds of each arc, where absent lower bounds are 0 and absent upper ones are none, and the
-- supply of each node
abbrev pub bounds_given : Option (List ℤ) → Option (List ℤ) → Option (List ℤ) → Bounds
bounds_given lower upper supply = record {
  lower = given lower;
  upper = upper_given upper;
  supply = given supply;
}

-- each lower bound is at most the upper one
abbrev pub AreOrdered : Numbered → Bounds → Type 0
AreOrdered g bounds =
    (arc : ℕ) → arc < g.arcs → IsAtMost (bounds.lower arc) (bounds.upper arc)

-- ---- as lists

-- so many values, which a function gives
pub record AreValues (count : ℕ) (value : ℕ → ℤ) (list : List ℤ) : Type 0 where
  pub all : length list ≡ count
  pub each : (k : ℕ) → k < count → at (pos 0) list k ≡ value k
  pub small : (k : ℕ) → k < count → IsValue (at (pos 0) list k)

-- the room between the bounds of an arc, where a capacity of 2^62 stands for no upper bound
abbrev pub IsSpan : ℤ → Option ℤ → ℕ → Type 0
IsSpan lower None cap = cap ≡ 2 ^ 62
IsSpan lower (Some upper) cap = (lower +ℤ pos cap ≡ upper) × (cap ≤ 2 ^ 37)

-- so many capacities: the rooms between the bounds of the first arcs, and open ones
pub record AreRooms (m all : ℕ) (lower : ℕ → ℤ) (upper : ℕ → Option ℤ) (caps : List ℕ) : Type 0
  where
    pub all_are : length caps ≡ all
    pub spans : (k : ℕ) → k < m → IsSpan (lower k) (upper k) (at 0 caps k)
    pub rest : (k : ℕ) → m ≤ k → k < all → at 0 caps k ≡ 2 ^ 62

-- the flow of each arc: its lower bound, and what is sent above it
pub record AreFlows (m : ℕ) (lower : ℕ → ℤ) (sent : ℕ → ℕ) (flows : List ℤ) : Type 0 where
  pub all : length flows ≡ m
  pub each : (k : ℕ) → k < m → at (pos 0) flows k ≡ lower k +ℤ pos (sent k)
