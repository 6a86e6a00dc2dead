-- The plain world that a world stands for.
use Rattle.std.specs.Prelude.{List, map, Option, Some, is_some, option_map}
use Rattle.std.specs.Prelude.{option_and_then}
use Rattle.std.specs.FinMap as fin
use Rattle.std.specs.Option.{option_map_or}
use Rattle.base_items.specs.declared.items.ItemSort.{ItemSort}
use Rattle.base_items.specs.declared.items.ItemSort.TheVariants as sorts
use Rattle.script_words.specs.declared.commands.GuardWord.{GuardWord}
use Rattle.script_words.specs.declared.commands.GuardWord.TheVariants as words
use Rattle.plain_digraph.specs.Digraph.{Digraph}
use Rattle.plain_digraph.specs.Copies.{Copy}
use Rattle.observe_core.specs.declared.kinds.Kind.{Kind}
use Rattle.observe_core.specs.declared.kinds.Kind.TheVariants as kinds
use Rattle.observe_core.specs.Held as held
use Rattle.observe_core.specs.Seen.{Seen, Watched}
use Rattle.alter_graph.specs.declared.snaps.SnapKeys.{SnapKeys}
use Rattle.alter_graph.specs.Chains.{chains_seen}
use Rattle.plain_world.specs.Tables.{Name, under}
use Rattle.plain_world.specs.World as plain
use Rattle.desk_world.specs.declared.tables.MapKind.{MapKind}
use Rattle.desk_world.specs.declared.tables.MapKind.TheVariants as maps
use Rattle.desk_world.specs.declared.tables.MapRow.{MapRow}
use Rattle.desk_world.specs.declared.tables.ItemTables.{ItemTables}
use Rattle.desk_world.specs.declared.tables.GuardRow.{GuardRow}
use Rattle.desk_world.specs.declared.tables.ViewRow.{ViewRow}
use Rattle.desk_world.specs.declared.tables.AttributeRow.{AttributeRow}
use Rattle.desk_world.specs.declared.tables.AttributeRow.TheVariants as rows
use Rattle.desk_world.specs.declared.world.World.{World}
use Rattle.desk_world.specs.Columns.{ints_of, bools_of, texts_of, labels_of, tied_item}
use Rattle.desk_world.specs.Copies.{copy_of_halves}
use Rattle.desk_world.specs.Looks.{Look, look_in, looked}

-- ---- maps

-- the chain in which a map of the sort sits: degrees hear of arcs
abbrev pub seat_sort : ItemSort → MapKind → ItemSort
seat_sort sort maps.Ints = sort
seat_sort sort maps.Bools = sort
seat_sort sort maps.Texts = sort
seat_sort sort (maps.Degrees way) = sorts.Arc
seat_sort sort (maps.Trues map) = sort

-- what a map has, by its kind and what its observer holds
abbrev pub held_by : MapKind → held.Held → plain.Held
held_by maps.Ints h = plain.Ints (ints_of h)
held_by maps.Bools h = plain.Bools (bools_of h)
held_by maps.Texts h = plain.Texts (texts_of h)
held_by (maps.Degrees way) h = plain.Degrees way
held_by (maps.Trues map) h = plain.Trues map

abbrev pub map_seen : Look → ItemSort → MapRow → Option plain.Held
map_seen look sort row =
    option_map (λ s. held_by row.kind s.held) (look (seat_sort sort row.kind) row.key.0)

abbrev pub labels_seen : Option Seen → plain.Column Name
labels_seen seen = option_map_or (λ s. labels_of s.held) seen fin.empty

abbrev pub attached_seen : Look → ItemSort → ItemTables → plain.Attached
attached_seen look sort items = record {
  labels = labels_seen (look sort items.labels.0);
  maps = looked (map_seen look sort) items.maps.rows;
}

-- ---- guards

-- the word of a kind of guards
abbrev pub word_of : Kind → GuardWord
word_of kinds.Map = words.Tally
word_of kinds.Quota = words.Quota
word_of kinds.Loopless = words.Loopless
word_of kinds.Simple = words.Simple
word_of kinds.OutCap = words.OutCap
word_of kinds.Fuse = words.Fuse
word_of kinds.Tally = words.Tally

abbrev pub guard_by : ItemSort → Seen → plain.Guard
guard_by sort s = record {
  sort = sort;
  kind = word_of s.kind;
  limit = s.k;
  left = s.left;
  added = s.added;
  erased = s.erased;
  moved = s.moved;
}

abbrev pub guard_seen : Look → GuardRow → Option plain.Guard
guard_seen look row = option_map (guard_by row.sort) (look row.sort row.key.0)

-- ---- snapshots, views, attributes

abbrev pub snapshot_seen : Digraph → Look → SnapKeys → Option (Option Copy)
snapshot_seen g look keys =
    option_and_then (λ (nodes : Seen). option_map
    (λ (arcs : Seen). copy_of_halves g nodes.held arcs.held) (look sorts.Arc keys.arcs.0))
    (look sorts.Node keys.nodes.0)

abbrev pub view_of : ViewRow → plain.View
view_of row = record { layer = row.layer; below = row.below; kept = is_some row.kept }

-- a tie that has ended leads to nothing
abbrev pub attribute_seen : (ItemSort → Option Seen) → AttributeRow → Option plain.Attribute
attribute_seen ties (rows.Plain text) = Some (plain.Plain text)
attribute_seen ties (rows.Tied sort number) =
    option_map (plain.Tied sort)
    (option_and_then (λ (s : Seen). tied_item number s.held) (ties sort))

-- ---- the world

-- what is attached to the items of a sort
abbrev pub tables_of : {O : Type 0} → World O → ItemSort → ItemTables
tables_of w sorts.Node = w.nodes
tables_of w sorts.Arc = w.arcs

-- the seats of the tied attributes of each sort
abbrev pub ties_seen : {O : Type 0} → Look → World O → ItemSort → Option Seen
ties_seen look w sort = look sort (tables_of w sort).ties.0

abbrev pub world_seen : {O : Type 0} → Digraph → Look → List GuardWord → World O → plain.World
world_seen g look pool w = record {
  graph = g;
  nodes = attached_seen look sorts.Node w.nodes;
  arcs = attached_seen look sorts.Arc w.arcs;
  guards = looked (guard_seen look) w.guards.rows;
  pool = pool;
  snapshots = looked (snapshot_seen g look) w.snapshots.rows;
  views = map (λ e. under e.name (view_of e.value)) w.views.rows;
  attributes = looked (attribute_seen (ties_seen look w)) w.attributes.rows;
}

module _ {O : Type 0} (watch : O → Watched) where
  -- what is seen under the keys of a world
  abbrev pub look_of : World O → Look
  look_of w = look_in (chains_seen watch w.graph.chains)

  -- the kinds of some boxes
  abbrev pub kinds_of : List O → List GuardWord
  kinds_of boxes = map (λ o. word_of (watch o).seen.kind) boxes

  -- the plain world
  abbrev pub plain_of : World O → plain.World
  plain_of w = world_seen w.graph.graph.graph (look_of w) (kinds_of w.pool.items) w
