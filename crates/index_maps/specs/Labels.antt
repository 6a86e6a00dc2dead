-- Labels in a table, each with its item, beside the place in the table of each item's label.
use Rattle.std.specs.Prelude.{◌≡◌, ◌≢◌, ℕ, ◌+◌, ◌-◌, ◌<◌, ◌≤◌, ◌==◌, if◌then◌else◌, List, []}
use Rattle.std.specs.Prelude.{length, map, slice_index_or, Option, Some, None}
use Rattle.observe_core.specs.Held.{Entry}
use Rattle.index_maps.specs.Lookup.{value_of}

-- a label with its item
abbrev pub Owned : Type 0
Owned = List ℕ × ℕ

abbrev pub no_label : Owned
no_label = ([], 0)

-- the place of an item's label: 0 where it has none, and else one above the index in the table
abbrev pub place_of : List (Entry ℕ) → ℕ → ℕ
place_of = value_of 0

abbrev pub label_at : List Owned → ℕ → Option (List ℕ)
label_at table place =
    if place == 0 then None else Some (slice_index_or table (place - 1) no_label).0

abbrev pub item_at : List Owned → ℕ → ℕ
item_at table place = (slice_index_or table (place - 1) no_label).1

abbrev pub named : List Owned → Entry ℕ → Entry (Option (List ℕ))
named table e = record { id = e.id; value = label_at table e.value }

-- each item with its label
abbrev pub labelled : List Owned → List (Entry ℕ) → List (Entry (Option (List ℕ)))
labelled table es = map (named table) es

-- places and table name each other
pub record IsTied (table : List Owned) (places : ℕ → ℕ) : Type 0 where
  pub within : (i : ℕ) → places i ≤ length table
  pub names : (i : ℕ) → places i ≢ 0 → item_at table (places i) ≡ i
  pub found : (p : ℕ) → p < length table → places (item_at table (p + 1)) ≡ p + 1
