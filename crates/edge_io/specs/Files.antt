-- What a shelf and a sink hold, where they tell it.
use Rattle.std.specs.Prelude.{◌≡◌, ℕ, ◌-◌, ◌<◌, ◌≤◌, List, ◌++◌, length, take, drop, Some, None, Option, option_map, ◌⊎◌}
use Rattle.std.specs.Ordering.{nat_cmp}
use Rattle.std.specs.Cmp.Lexicographic.{slice_cmp}
use Rattle.std.specs.FinMap as map

-- from the name of a file to its bytes
abbrev pub Files : Type 0
Files = map.FinMap (slice_cmp nat_cmp) (List ℕ)

-- the file is there, with these bytes
abbrev pub Holds : Files → List ℕ → List ℕ → Type 0
Holds files name bytes = map.get files name ≡ Some bytes

-- no file has the name
abbrev pub Lacks : Files → List ℕ → Type 0
Lacks files name = map.get files name ≡ None

-- the file is there, with at most this many bytes
abbrev pub HoldsWithin : Files → List ℕ → ℕ → List ℕ → Type 0
HoldsWithin files name limit bytes = Holds files name bytes × (length bytes ≤ limit)

-- the file is there, with more bytes than this
abbrev pub IsTooLong : Files → List ℕ → ℕ → Type 0
IsTooLong files name limit = (bytes : List ℕ) × Holds files name bytes × (limit < length bytes)

-- count bytes from place at stand at the front of into; none exactly at or past the end
pub record ReadsPart (bytes : List ℕ) (at count : ℕ) (into : List ℕ) : Type 0 where
  pub within : count ≤ length bytes - at
  pub ended : count ≡ 0 → length bytes ≤ at
  pub copied : take count into ≡ take count (drop at bytes)

-- the file is there, and these bytes of it were read
abbrev pub ReadsFile : Files → List ℕ → ℕ → ℕ → List ℕ → Type 0
ReadsFile files name at count into =
    (bytes : List ℕ) × Holds files name bytes × ReadsPart bytes at count into

-- what a failed store leaves: the files as they were, or with a prefix of the bytes under the name
abbrev pub KeepsPart : Files → List ℕ → List ℕ → Files → Type 0
KeepsPart before name bytes now =
    (now ≡ before) ⊎ ((count : ℕ) × (count ≤ length bytes)
    × (now ≡ map.insert before name (take count bytes)))

-- these bytes went to the end of what was taken
abbrev pub Took : Option (List ℕ) → Option (List ℕ) → List ℕ → Type 0
Took before now bytes = now ≡ option_map (λ taken. taken ++ bytes) before
