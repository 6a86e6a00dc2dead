-- What contracts see of the maps.
use Rattle.std.specs.Prelude.{ℕ, ℤ, Bool, List}
use Rattle.observe_core.specs.Held.{Values, Ints, Bools, Texts, Entry}
use Rattle.observe_core.specs.Seen.{Seen, map_seen}
use Rattle.columns.specs.Views.{entries_of}
use Rattle.value_maps.specs.declared.ints.IntMap.{IntMap}
use Rattle.value_maps.specs.declared.bools.BoolMap.{BoolMap}
use Rattle.value_maps.specs.declared.texts.TextMap.{TextMap}

-- a map of ints, of bools, or of texts, with these entries
abbrev pub holding_ints : List (Entry ℤ) → Seen
holding_ints entries = map_seen (Values Ints entries)

abbrev pub holding_bools : List (Entry Bool) → Seen
holding_bools entries = map_seen (Values Bools entries)

abbrev pub holding_texts : List (Entry (List ℕ)) → Seen
holding_texts entries = map_seen (Values Texts entries)

-- the entries of a map, by rising id
abbrev pub ints_of : IntMap → List (Entry ℤ)
ints_of m = entries_of m.column

abbrev pub bools_of : BoolMap → List (Entry Bool)
bools_of m = entries_of m.column

abbrev pub texts_of : TextMap → List (Entry (List ℕ))
texts_of m = entries_of m.column

abbrev pub ints_seen : IntMap → Seen
ints_seen m = holding_ints (ints_of m)

abbrev pub bools_seen : BoolMap → Seen
bools_seen m = holding_bools (bools_of m)

abbrev pub texts_seen : TextMap → Seen
texts_seen m = holding_texts (texts_of m)
