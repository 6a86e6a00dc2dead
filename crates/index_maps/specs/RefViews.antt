-- What contracts see of a table of labels.
use Rattle.std.specs.Prelude.{◌⊎◌, ℕ, List, Option, Some, None, Contains}
use Rattle.indexmap.specs.IndexMap.{spare}
use Rattle.observe_core.specs.Held.{Values, Labels, Entry, entry_id, LacksLabel}
use Rattle.observe_core.specs.Items.{Lacks}
use Rattle.observe_core.specs.Seen.{Seen, map_seen}
use Rattle.columns.specs.Views.{entries_of}
use Rattle.index_maps.specs.declared.cross_ref.CrossRef.{CrossRef}
use Rattle.index_maps.specs.Labels.{labelled}

abbrev pub labels_of : CrossRef → List (Entry (Option (List ℕ)))
labels_of r = labelled r.labels.entries (entries_of r.places)

abbrev pub holding_labels : List (Entry (Option (List ℕ))) → Seen
holding_labels entries = map_seen (Values Labels entries)

abbrev pub refs_seen : CrossRef → Seen
refs_seen r = holding_labels (labels_of r)

-- so many labels can be put without memory
abbrev pub room_of : CrossRef → ℕ
room_of r = spare r.labels

abbrev pub with_label : ℕ → Option (List ℕ) → Entry (Option (List ℕ))
with_label id label = record { id = id; value = label }

-- the item is live and has the label, or none
abbrev pub HasLabel : ℕ → Option (List ℕ) → List (Entry (Option (List ℕ))) → Type 0
HasLabel id label entries = Contains entries (with_label id label)

-- the id is of no item, or of one without label
abbrev pub HasNoLabel : ℕ → List (Entry (Option (List ℕ))) → Type 0
HasNoLabel id entries = Lacks entry_id id entries ⊎ HasLabel id None entries

-- the item is live and has a label
abbrev pub HasSomeLabel : ℕ → List (Entry (Option (List ℕ))) → Type 0
HasSomeLabel id entries = (text : List ℕ) × HasLabel id (Some text) entries

-- no item has the label
abbrev pub IsFreeLabel : List ℕ → List (Entry (Option (List ℕ))) → Type 0
IsFreeLabel label entries = LacksLabel (Some label) entries
