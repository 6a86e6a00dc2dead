-- What contracts see of a column.
use Rattle.std.specs.Prelude.{◌≡◌, ◌<◌, ◌≤◌, ℕ, Bool, false, List, map, get_or, vec_len}
use Rattle.base_items.specs.declared.items.Fact.{Fact}
use Rattle.plain_digraph.specs.Lists.{AllOf}
use Rattle.observe_core.specs.Held.{Entry}
use Rattle.observe_core.specs.Slots.{present}
use Rattle.columns.specs.Slots.{slots_of}
use Rattle.columns.specs.declared.column.Column.{Column}

abbrev pub entry : {V : Type 0} → ℕ → V → Entry V
entry id value = record { id = id; value = value }

abbrev pub entries_of : {V : Type 0} → Column V → List (Entry V)
entries_of c = present (slots_of 0 c.live.items c.values.items)

-- the entries of facts that are told, with one value
abbrev pub entries_told : {V : Type 0} → V → List Fact → List (Entry V)
entries_told value all = map (λ f. entry f.id value) all

-- ---- the slots of dead ids

-- where no flag is up the value is the filler
abbrev pub AreBlank : {V : Type 0} → V → List Bool → List V → Type 0
AreBlank filler live values = (k : ℕ) → get_or live k false ≡ false
    → get_or values k filler ≡ filler

abbrev pub IsBlank : {V : Type 0} → V → Column V → Type 0
IsBlank filler c = AreBlank filler c.live.items c.values.items

-- dead slots that hold this filler go on doing so
abbrev pub StaysBlank : {V : Type 0} → V → Column V → Column V → Type 0
StaysBlank filler old new = IsBlank filler old → IsBlank filler new

-- ---- how many slots there are

abbrev pub extent_of : {V : Type 0} → Column V → ℕ
extent_of c = vec_len c.values

-- slots for an id more, and no others
abbrev pub ExtendsTo : {V : Type 0} → ℕ → Column V → Column V → Type 0
ExtendsTo id old new = (n : ℕ) → extent_of old ≤ n → id < n → extent_of new ≤ n

-- slots for the ids of these facts more, and no others
abbrev pub ExtendsToAll : {V : Type 0} → List Fact → Column V → Column V → Type 0
ExtendsToAll all old new = (n : ℕ) → extent_of old ≤ n → AllOf (λ f. f.id < n) all
    → extent_of new ≤ n
