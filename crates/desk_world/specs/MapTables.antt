-- A world with another table of maps.
use Rattle.base_items.specs.declared.items.ItemSort.{ItemSort}
use Rattle.base_items.specs.declared.items.ItemSort.TheVariants as sorts
use Rattle.desk_names.specs.Rows.{Rows}
use Rattle.desk_world.specs.declared.tables.MapRow.{MapRow}
use Rattle.desk_world.specs.declared.world.World.{World}

-- the maps of the sort being these, and all else as it was
abbrev pub with_table : {O : Type 0} → World O → ItemSort → Rows MapRow → World O
with_table w sorts.Node table = record w { nodes = record w.nodes { maps = table } }
with_table w sorts.Arc table = record w { arcs = record w.arcs { maps = table } }
