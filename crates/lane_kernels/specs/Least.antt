-- The first place with the least value.
use Rattle.std.specs.Prelude.{◌≡◌, ℕ, ◌<◌, ℤ, pos, negsuc, ◌+ℤ◌, ◌-ℤ◌, ◌≤ℤ◌, Bool, true, false}
use Rattle.std.specs.Prelude.{List, slice_index_or, Option, Some, None, All}

-- Among the places below n that count, the least value stands at this place, and at none before.
pub record IsFirstLeast (value : ℕ → ℤ) (counts : ℕ → Bool) (n place : ℕ) (least : ℤ) : Type 0 where
  pub within : place < n
  pub counted : counts place ≡ true
  pub has : value place ≡ least
  pub is_least : (k : ℕ) → k < n → counts k ≡ true → least ≤ℤ value k
  pub first : (k : ℕ) → k < place → counts k ≡ true → value k ≡ least → ⊥

-- the value at a place of a list
abbrev pub value_at : List ℤ → ℕ → ℤ
value_at values k = slice_index_or values k (pos 0)

-- whether a place is live
abbrev pub is_live_at : List Bool → ℕ → Bool
is_live_at live k = slice_index_or live k false

-- the first least live value among the first n places
abbrev pub IsFirstLive : List ℤ → List Bool → ℕ → ℕ → ℤ → Type 0
IsFirstLive values live n place least =
    IsFirstLeast (value_at values) (is_live_at live) n place least

-- the same for an answer, which is none exactly where no place is live
abbrev pub IsLeastLive : List ℤ → List Bool → ℕ → Option (ℕ × ℤ) → Type 0
IsLeastLive values live n None = (k : ℕ) → k < n → is_live_at live k ≡ false
IsLeastLive values live n (Some found) = IsFirstLive values live n found.0 found.1

-- the reduced cost at a place: the cost and the potential at its start less that at its end
abbrev pub reduced_at : List ℤ → List ℤ → List ℤ → ℕ → ℤ
reduced_at costs from to k = (value_at costs k +ℤ value_at from k) -ℤ value_at to k

-- every place counts
abbrev pub every_place : ℕ → Bool
every_place k = true

-- the first least reduced cost among the first n places
abbrev pub IsFirstReduced : List ℤ → List ℤ → List ℤ → ℕ → ℕ → ℤ → Type 0
IsFirstReduced costs from to n place least =
    IsFirstLeast (reduced_at costs from to) every_place n place least

-- the same for an answer, which is none exactly where there is no place
abbrev pub IsLeastReduced : List ℤ → List ℤ → List ℤ → ℕ → Option (ℕ × ℤ) → Type 0
IsLeastReduced costs from to n None = n ≡ 0
IsLeastReduced costs from to n (Some found) = IsFirstReduced costs from to n found.0 found.1

-- a number of magnitude at most 2^60
abbrev pub IsModest : ℤ → Type 0
IsModest x = (negsuc 1152921504606846975 ≤ℤ x) × (x ≤ℤ pos 1152921504606846976)

-- all of a list are
abbrev pub AllModest : List ℤ → Type 0
AllModest xs = All IsModest xs
