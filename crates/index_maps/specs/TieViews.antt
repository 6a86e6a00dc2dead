-- What contracts see of ties.
use Rattle.std.specs.Prelude.{List}
use Rattle.observe_core.specs.Held.{Ties as TiesHeld, Tie}
use Rattle.observe_core.specs.Seen.{Seen, map_seen}
use Rattle.columns.specs.Views.{entries_of}
use Rattle.index_maps.specs.declared.ties.Ties.{Ties}
use Rattle.index_maps.specs.TieEntries.{ties_in}

-- the ties by rising number
abbrev pub ties_of : Ties → List Tie
ties_of t = ties_in (entries_of t.column)

abbrev pub ties_seen : Ties → Seen
ties_seen t = map_seen (TiesHeld (ties_of t))
