-- A table of the places of ids in a list.
use Rattle.std.specs.Prelude.{◌≡◌, ℕ, ◌+◌, ◌<◌, true, List, All, take, drop, length}
use Rattle.base_items.specs.declared.items.Fact.{Fact}
use Rattle.plain_digraph.specs.Lists.{has}
use Rattle.plain_certificates.specs.Tables.{at, place_of}

-- the table has room for each id
abbrev pub IsWide : List ℕ → ℕ → Type 0
IsWide ids size = (id : ℕ) → has ids id ≡ true → id < size

-- the first ids are below a size
abbrev pub IsWideTo : List ℕ → ℕ → ℕ → Type 0
IsWideTo ids i size = (id : ℕ) → has (take i ids) id ≡ true → id < size

-- the table tells the place of each id
abbrev pub IsTable : List ℕ → List ℕ → Type 0
IsTable ids table =
    (id : ℕ) → has ids id ≡ true → (id < length table) × (at 0 table id ≡ place_of ids id)

-- the table has a slot for each end
abbrev pub AreInTable : List ℕ → List Fact → Type 0
AreInTable table arcs =
    All (λ fact. (fact.from < length table) × (fact.to < length table)) arcs

-- the table tells the place of each id from one place on
abbrev pub IsTableFrom : List ℕ → List ℕ → ℕ → Type 0
IsTableFrom ids table i =
    (id : ℕ) → has (drop i ids) id ≡ true → at 0 table id ≡ i + place_of (drop i ids) id
