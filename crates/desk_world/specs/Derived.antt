-- What indexes have of their maps, and ties of the attributes.
use Rattle.std.specs.Prelude.{◌≡◌, ℕ, suc, Bool, List, [], ◌∷◌, map, Option, Some, slice_get}
use Rattle.std.specs.Option.{option_map_or}
use Rattle.base_items.specs.declared.items.ItemSort.{ItemSort}
use Rattle.base_items.specs.declared.items.ItemSort.TheVariants as sorts
use Rattle.plain_digraph.specs.Lists.{AllOf}
use Rattle.observe_core.specs.Held.{Entry, Tie}
use Rattle.observe_core.specs.Seen.{Seen}
use Rattle.plain_world.specs.Tables.{Name, Named, entry}
use Rattle.desk_seats.specs.Contents.{bools_in, trues_in, ties_held}
use Rattle.desk_world.specs.declared.tables.MapKind.{MapKind}
use Rattle.desk_world.specs.declared.tables.MapKind.TheVariants as maps
use Rattle.desk_world.specs.declared.tables.MapRow.{MapRow}
use Rattle.desk_world.specs.declared.tables.ItemTables.{ItemTables}
use Rattle.desk_world.specs.declared.tables.AttributeRow.{AttributeRow}
use Rattle.desk_world.specs.declared.tables.AttributeRow.TheVariants as rows
use Rattle.desk_world.specs.Looks.{Look}

-- ---- indexes

-- what a map of bools has, by rising id, and whether each item is one of an index
abbrev pub bools_seen : Option Seen → List (Entry Bool)
bools_seen seen = option_map_or bools_in seen []

abbrev pub trues_seen : Option Seen → List (Entry Bool)
trues_seen seen = option_map_or trues_in seen []

-- the index under the key is of a map of bools among these, and has what that map has
pub record IsIndexOf (look : ℕ → Option Seen) (table : List (Named MapRow)) (name : Name) (key : ℕ)
    : Type 0 where
  pub source : MapRow
  pub found : entry table name ≡ Some source
  pub bools : source.kind ≡ maps.Bools
  pub same : trues_seen (look key) ≡ bools_seen (look source.key.0)

abbrev pub IsIndexed : (ℕ → Option Seen) → List (Named MapRow) → MapKind → ℕ → Type 0
IsIndexed look table (maps.Trues name) key = IsIndexOf look table name key
IsIndexed look table _ key = Unit {0}

-- each index among these maps has what its map has
abbrev pub AreIndexed : (ℕ → Option Seen) → List (Named MapRow) → Type 0
AreIndexed look table = AllOf (λ e. IsIndexed look table e.value.kind e.value.key.0) table

-- ---- ties

abbrev pub ties_at : Option Seen → List Tie
ties_at seen = option_map_or (λ s. ties_held s.held) seen []

abbrev pub IsNumbered : ℕ → AttributeRow → Type 0
IsNumbered place (rows.Plain text) = Unit {0}
IsNumbered place (rows.Tied sort number) = number ≡ place

-- each tied attribute is numbered by its place, the first of these standing at this one
abbrev pub AreNumbered : ℕ → List (Named AttributeRow) → Type 0
AreNumbered place [] = Unit {0}
AreNumbered place (e ∷ table) = IsNumbered place e.value × AreNumbered (suc place) table

-- each of the ties is that of an attribute, by its number
abbrev pub AreOfRows : ItemSort → List (Named AttributeRow) → List Tie → Type 0
AreOfRows sort table ties =
    AllOf (λ t. slice_get (map (λ e. e.value) table) t.tie ≡ Some (rows.Tied sort t.tie)) ties

-- ---- the world

-- each index has what its map has, and each tie is that of an attribute. An attribute whose tie has
-- ended may keep its row, which then leads to nothing.
pub record AreDerived (look : Look) (nodes arcs : ItemTables)
    (attributes : List (Named AttributeRow)) : Type 0 where
  pub node_indexes : AreIndexed (look sorts.Node) nodes.maps.rows
  pub arc_indexes : AreIndexed (look sorts.Arc) arcs.maps.rows
  pub numbered : AreNumbered 0 attributes
  pub node_ties : AreOfRows sorts.Node attributes (ties_at (look sorts.Node nodes.ties.0))
  pub arc_ties : AreOfRows sorts.Arc attributes (ties_at (look sorts.Arc arcs.ties.0))
