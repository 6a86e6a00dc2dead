-- That kept views follow: what their seats hold is what their layers show of the present base and
-- maps.
use Rattle.std.specs.Prelude.{◌≡◌, false, List, [], map, Option, IfSome}
use Rattle.std.specs.Option.{option_map_or}
use Rattle.std.specs.Str.{bytes_eq}
use Rattle.base_items.specs.declared.items.ItemSort.TheVariants.{Node, Arc}
use Rattle.plain_digraph.specs.Lists.{AllOf}
use Rattle.observe_core.specs.Held.{Marked}
use Rattle.observe_core.specs.Seen.{Seen}
use Rattle.plain_world.specs.Tables.{Name, Named, under}
use Rattle.plain_world.specs.World.{View}
use Rattle.kept_walks.specs.Present.{Present, AreFiltered, AreRoomy, items_seen}
use Rattle.desk_world.specs.declared.tables.ItemTables.{ItemTables}
use Rattle.desk_world.specs.declared.tables.KeptKeys.{KeptKeys}
use Rattle.desk_world.specs.declared.tables.ViewRow.{ViewRow}
use Rattle.desk_world.specs.KeptMaps.{ReadsMaps, present_in}
use Rattle.desk_world.specs.Looks.{Look}
use Rattle.desk_world.specs.Plain.{view_of}

-- the items that the observer in a seat of a kept view holds
abbrev pub items_at : Option Seen → List Marked
items_at seen = option_map_or items_seen seen []

-- each item is marked by these present values
pub record AreMarkedBy (v : Present) (nodes arcs : List Marked) : Type 0 where
  pub filtered : AreFiltered v nodes arcs
  pub roomy : AreRoomy v arcs

-- the items in the seats of a kept view are marked by the present values of its maps
abbrev pub IsPlaced : Look → KeptKeys → Type 0
IsPlaced look keys =
    AreMarkedBy (present_in look keys.maps) (items_at (look Node keys.nodes.0))
    (items_at (look Arc keys.arcs.0))

-- the views of some rows
abbrev pub views_of : List (Named ViewRow) → List (Named View)
views_of rows = map (λ (e : Named ViewRow). under e.name (view_of e.value)) rows

-- no view stands on one of the name
abbrev pub NoneStand : List (Named View) → Name → Type 0
NoneStand views name =
    AllOf (λ (e : Named View). bytes_eq e.value.below name ≡ false) views

-- the layers of each kept view among the rows read the maps in its row
abbrev pub AreReading : (nodes arcs : ItemTables) → List (Named View) → List (Named ViewRow)
    → Type 0
AreReading nodes arcs views rows = AllOf (λ (e : Named ViewRow). IfSome e.value.kept
    (λ keys. ReadsMaps nodes arcs views e.name keys.maps)) rows

-- and its seats are placed by their present values
abbrev pub ArePlaced : Look → List (Named ViewRow) → Type 0
ArePlaced look rows = AllOf (λ (e : Named ViewRow). IfSome e.value.kept (IsPlaced look)) rows

pub record AreKept (look : Look) (nodes arcs : ItemTables) (rows : List (Named ViewRow)) : Type 0
  where
    pub reading : AreReading nodes arcs (views_of rows) rows
    pub placed : ArePlaced look rows
