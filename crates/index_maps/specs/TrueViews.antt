-- What contracts see of the true items.
use Rattle.std.specs.Prelude.{Bool, List}
use Rattle.observe_core.specs.Held.{Values, Trues, Entry}
use Rattle.observe_core.specs.Seen.{Seen, map_seen}
use Rattle.columns.specs.Views.{entries_of}
use Rattle.index_maps.specs.declared.trues.TrueItems.{TrueItems}

-- true items with these entries
abbrev pub holding_trues : List (Entry Bool) → Seen
holding_trues entries = map_seen (Values Trues entries)

-- the items by rising id, each with whether it is true
abbrev pub trues_of : TrueItems → List (Entry Bool)
trues_of m = entries_of m.column

abbrev pub trues_seen : TrueItems → Seen
trues_seen m = holding_trues (trues_of m)
