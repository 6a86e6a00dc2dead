-- Tables of names.
use Rattle.std.specs.Prelude.{ℕ, Bool, not, cond, List, [], ◌∷◌, ◌++◌, map, filter, find, Option}
use Rattle.std.specs.Prelude.{is_some, option_map}
use Rattle.std.specs.List.{filter_map}
use Rattle.std.specs.Str.{bytes_eq}

abbrev pub Name : Type 0
Name = List ℕ

-- something under a name
pub record Named (X : Type 0) : Type 0 where
  pub name : Name
  pub value : X

abbrev pub under : {X : Type 0} → Name → X → Named X
under name value = record { name = name; value = value }

abbrev pub is_named : {X : Type 0} → Name → Named X → Bool
is_named name entry = bytes_eq entry.name name

-- what stands under the name
abbrev pub entry : {X : Type 0} → List (Named X) → Name → Option X
entry table name = option_map (λ e. e.value) (find (is_named name) table)

abbrev pub has_entry : {X : Type 0} → List (Named X) → Name → Bool
has_entry table name = is_some (entry table name)

-- the name of the oldest entry that passes
abbrev pub oldest : {X : Type 0} → (X → Bool) → List (Named X) → Option Name
oldest test table = option_map (λ e. e.name) (find (λ e. test e.value) table)

-- the table with one entry more, with that of the name changed, and without it
abbrev pub with_entry : {X : Type 0} → List (Named X) → Name → X → List (Named X)
with_entry table name value = table ++ under name value ∷ []

abbrev pub with_change : {X : Type 0} → List (Named X) → Name → (X → X) → List (Named X)
with_change table name change =
    map (λ e. cond (is_named name e) (under e.name (change e.value)) e) table

abbrev pub without_entry : {X : Type 0} → List (Named X) → Name → List (Named X)
without_entry table name = filter (λ e. not (is_named name e)) table

-- each value as the change leaves it; where the change gives none, the entry goes
abbrev pub each_changed : {X : Type 0} → (X → Option X) → List (Named X) → List (Named X)
each_changed change table = filter_map (λ e. option_map (under e.name) (change e.value)) table
