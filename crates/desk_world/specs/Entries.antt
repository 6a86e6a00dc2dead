-- What stands in the seats of a world.
use Rattle.std.specs.Prelude.{ℕ, List, [], Option}
use Rattle.std.specs.Option.{option_map_or}
use Rattle.base_items.specs.declared.items.ItemSort.{ItemSort}
use Rattle.observe_core.specs.Held.{Entry}
use Rattle.observe_core.specs.Seen.{Watched}
use Rattle.alter_graph.specs.Chains.{chains_seen, seats_in}
use Rattle.plain_world.specs.Tables.{Name}
use Rattle.desk_seats.specs.Contents.{labels_in}
use Rattle.desk_world.specs.declared.world.World.{World}
use Rattle.desk_world.specs.Looks.{room_at}
use Rattle.desk_world.specs.Plain.{look_of, tables_of}

module _ {O : Type 0} (watch : O → Watched) where
  -- the items of the sort, each with its label
  abbrev pub labels_at : World O → ItemSort → List (Entry (Option Name))
  labels_at w sort = option_map_or labels_in (look_of watch w sort (tables_of w sort).labels.0) []

  -- how many labels there is room for
  abbrev pub room_for_labels : World O → ItemSort → ℕ
  room_for_labels w sort =
      room_at (tables_of w sort).labels.0 (seats_in sort (chains_seen watch w.graph.chains))
