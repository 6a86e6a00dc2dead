-- Names among others, and names that differ.
use Rattle.std.specs.Prelude.{◌≡◌, ℕ, ◌||◌, Bool, false, List, [], ◌∷◌}
use Rattle.std.specs.List.{list_any}
use Rattle.std.specs.Str.{bytes_eq}

-- The name is none of these.
abbrev pub IsNoneOf : List ℕ → List (List ℕ) → Type 0
IsNoneOf name [] = Unit {0}
IsNoneOf name (other ∷ others) = (name ≡ other → ⊥) × IsNoneOf name others

-- Whether the name is one of these.
abbrev pub is_among : List ℕ → List (List ℕ) → Bool
is_among name names = list_any (bytes_eq name) names

-- Whether a name stands twice.
abbrev pub has_twice : List (List ℕ) → Bool
has_twice [] = false
has_twice (name ∷ names) = is_among name names || has_twice names
