-- Lists of items by rising id.
use Rattle.std.specs.Prelude.{◌≡◌, ◌≢◌, ℕ, ◌+◌, Bool, true, false, ◌&&◌, nat_lt, nat_le, ◌==◌}
use Rattle.std.specs.Prelude.{if◌then◌else◌, List, [], ◌∷◌}
use Rattle.plain_digraph.specs.Rising.{with_item}

module _ {X : Type 0} (id_of : X → ℕ) where
  -- all of them at their places
  abbrev pub place_all : List X → List X → List X
  place_all [] ys = ys
  place_all (x ∷ xs) ys = place_all xs (with_item id_of x ys)

  -- no item has this id
  abbrev pub Lacks : ℕ → List X → Type 0
  Lacks i [] = Unit {0}
  Lacks i (y ∷ ys) = (id_of y ≢ i) × Lacks i ys

  -- nothing but x has the id of x
  abbrev pub HoldsOnly : X → List X → Type 0
  HoldsOnly x [] = Unit {0}
  HoldsOnly x (y ∷ ys) = (id_of y ≡ id_of x → y ≡ x) × HoldsOnly x ys

  abbrev pub has_id : ℕ → List X → Bool
  has_id i [] = false
  has_id i (y ∷ ys) = if id_of y == i then true else has_id i ys

  -- the ids rise, and none is below low
  abbrev pub rises_from : ℕ → List X → Bool
  rises_from low [] = true
  rises_from low (y ∷ ys) = nat_le low (id_of y) && rises_from (id_of y + 1) ys

-- a number is its own id
abbrev pub number_id : ℕ → ℕ
number_id n = n

-- one more of the number, and one fewer, in a list that doesn't fall
abbrev pub put_number : ℕ → List ℕ → List ℕ
put_number = with_item number_id

abbrev pub drop_number : ℕ → List ℕ → List ℕ
drop_number n [] = []
drop_number n (m ∷ ms) = if m == n then ms else m ∷ drop_number n ms

-- no number is below the one before
abbrev pub starts_at : ℕ → List ℕ → Bool
starts_at n [] = true
starts_at n (m ∷ ms) = nat_le n m

abbrev pub never_falls : List ℕ → Bool
never_falls [] = true
never_falls (m ∷ ms) = starts_at m ms && never_falls ms

-- one above the greatest, or 0
abbrev pub above_all : List ℕ → ℕ
above_all [] = 0
above_all (n ∷ ns) = if nat_lt n (above_all ns) then above_all ns else n + 1
