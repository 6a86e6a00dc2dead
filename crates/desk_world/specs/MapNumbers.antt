-- Maps by number, as towers name them: the number of a map is its place in the table of its sort.
use Rattle.std.specs.Prelude.{ℕ, pos, Bool, false, cond, List, map, Option, None, Some, is_some}
use Rattle.std.specs.Prelude.{option_and_then, slice_get}
use Rattle.std.specs.List.{position_or_len}
use Rattle.std.specs.Option.{option_map_or}
use Rattle.std.specs.FinMap as fin
use Rattle.base_items.specs.declared.items.ItemSort.{ItemSort}
use Rattle.base_items.specs.declared.items.ItemSort.TheVariants as sorts
use Rattle.script_words.specs.declared.commands.MapType.{MapType}
use Rattle.plain_digraph.specs.Digraph.{Digraph}
use Rattle.plain_digraph.specs.Items.{ids}
use Rattle.plain_digraph.specs.Lists.{has}
use Rattle.plain_views.specs.Renaming.{renamed}
use Rattle.plain_views.specs.Towers.{Layer, Values}
use Rattle.plain_world.specs.Tables.{Name, Named, is_named}
use Rattle.plain_world.specs.World.{World, Held, attached}
use Rattle.plain_world.specs.Values.{type_of, int_at, bool_at}
use Rattle.plain_world.specs.Views.{is_type, has_type, tower_of}

-- whether the item is live
abbrev pub is_live : Digraph → ItemSort → ℕ → Bool
is_live g sorts.Node id = has (ids g.nodes) id
is_live g sorts.Arc id = is_some (fin.get g.ends id)

module _ (world : World) where
  -- the number of the map of a name
  abbrev pub number_of : ItemSort → Name → ℕ
  number_of sort name = position_or_len (is_named name) (attached world sort).maps

  -- the map of a number
  abbrev pub map_at : ItemSort → ℕ → Option (Named Held)
  map_at sort number = slice_get (attached world sort).maps number

  -- whether it has values of the type
  abbrev pub is_of_type : MapType → Named Held → Bool
  is_of_type type e = option_map_or (is_type type) (type_of e.value) false

  abbrev pub numbers_type : MapType → ItemSort → ℕ → Bool
  numbers_type type sort number = option_map_or (is_of_type type) (map_at sort number) false

  -- the number of the map of the nodes with the name and the type of this one
  abbrev pub partner_by : Named Held → Option ℕ
  partner_by e =
      option_and_then (λ type. cond (has_type world sorts.Node type e.name)
      (Some (number_of sorts.Node e.name)) None) (type_of e.value)

  -- the values of the maps
  abbrev pub numbered : Values ℕ
  numbered = record {
    int = λ sort number id. option_map_or (λ e. int_at e.value id) (map_at sort number) (pos 0);
    bool = λ sort number id. option_map_or (λ e. bool_at e.value id) (map_at sort number) false;
    partner = λ number. option_and_then partner_by (map_at sorts.Arc number);
  }

  -- the layers of a view, whose maps go by numbers
  abbrev pub numbered_tower : Name → List (Layer ℕ)
  numbered_tower view = map (renamed number_of) (tower_of world view)
