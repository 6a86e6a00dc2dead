-- The views of a world: their layers, what they show, and the names of their items.
use Rattle.std.specs.Prelude.{ℕ, zero, suc, ℤ, pos, Bool, true, false, option_and_then, ◌||◌, cond}
use Rattle.std.specs.Prelude.{codes, List, [], ◌∷◌, map, find, Option, None, Some}
use Rattle.std.specs.Option.{option_map_or}
use Rattle.std.specs.Str.{bytes_eq}
use Rattle.base_items.specs.declared.items.ItemSort.{ItemSort}
use Rattle.base_items.specs.declared.items.ItemSort.TheVariants as sorts
use Rattle.base_items.specs.declared.limits.TheConstants.{MAX_LAYERS}
use Rattle.script_words.specs.declared.commands.LayerWord.{LayerWord}
use Rattle.script_words.specs.declared.commands.LayerWord.TheVariants as words
use Rattle.script_words.specs.declared.commands.MapType.{MapType}
use Rattle.script_words.specs.declared.commands.MapType.TheVariants as types
use Rattle.report_text.specs.declared.replies.NodeLine.{NodeLine}
use Rattle.report_text.specs.declared.replies.ArcLine.{ArcLine}
use Rattle.plain_views.specs.Shown as shown
use Rattle.plain_views.specs.Shown.{Shown, ShownArc}
use Rattle.plain_views.specs.Towers as towers
use Rattle.plain_views.specs.Towers.{Layer, Values}
use Rattle.plain_views.specs.Marks.{Origin, FromArc, FromNode, arc_origin, node_marks, arc_marks}
use Rattle.plain_views.specs.Marks.{marked}
use Rattle.plain_world.specs.Tables.{Name, Named, entry}
use Rattle.plain_world.specs.World.{World, View, Held, attached, label_of}
use Rattle.plain_world.specs.Values.{type_of, int_at, bool_at}

-- the name of the view that is always there
abbrev pub base : Name
base = codes "base"

abbrev pub is_base : Name → Bool
is_base name = bytes_eq name base

-- ---- maps by name

-- what stands under the name of a map; the labels stand under none
abbrev pub map_of : World → ItemSort → Name → Option Held
map_of world sort name = entry (attached world sort).maps name

abbrev pub is_type : MapType → MapType → Bool
is_type types.Ints types.Ints = true
is_type types.Bools types.Bools = true
is_type types.Texts types.Texts = true
is_type _ _ = false

-- whether the name is that of a value map of this type
abbrev pub has_type : World → ItemSort → MapType → Name → Bool
has_type world sort type name =
    option_map_or (is_type type) (option_and_then type_of (map_of world sort name)) false

-- the map of the nodes with the name and the type of this one of the arcs
abbrev pub partner_of : World → Name → Option Name
partner_of world name =
    option_and_then (λ type. cond (has_type world sorts.Node type name) (Some name) None)
    (option_and_then type_of (map_of world sorts.Arc name))

abbrev pub values_of : World → Values Name
values_of world = record {
  int = λ sort name id. option_map_or (λ held. int_at held id) (map_of world sort name) (pos 0);
  bool = λ sort name id. option_map_or (λ held. bool_at held id) (map_of world sort name) false;
  partner = partner_of world;
}

-- ---- towers

abbrev pub layer_of : LayerWord → Layer Name
layer_of words.Reverse = towers.Reverse
layer_of words.Undirect = towers.Undirect
layer_of words.Split = towers.Split
layer_of (words.Sub nodes arcs) = towers.Sub nodes arcs
layer_of (words.Residual cap flow) = towers.Residual cap flow

-- the layers of a view, its own first, then those of the view below; so many at most
abbrev pub layers_up_to : ℕ → List (Named View) → Name → List (Layer Name)
layers_up_to zero views name = []
layers_up_to (suc most) views name =
    option_map_or (λ view. layer_of view.layer ∷ layers_up_to most views view.below)
    (entry views name) []

abbrev pub tower_of : World → Name → List (Layer Name)
tower_of world view = layers_up_to MAX_LAYERS world.views view

-- ---- what a view shows

-- the base being the present one
abbrev pub shown_by : World → Name → Shown
shown_by world view = towers.shown (values_of world) world.graph (tower_of world view)

abbrev pub arcs_of : World → Name → List ShownArc
arcs_of world view = shown.arcs_in_order (shown_by world view)

abbrev pub arc_value : World → Name → Name → ℕ → ℤ
arc_value world view map arc = towers.arc_int (values_of world) (tower_of world view) map arc

abbrev pub node_value : World → Name → Name → ℕ → ℤ
node_value world view map node = towers.node_int (values_of world) (tower_of world view) map node

-- whether the node is on the left, by a bool map
abbrev pub is_left : World → Name → Name → ℕ → Bool
is_left world view map node = towers.node_bool (values_of world) (tower_of world view) map node

-- ---- names

abbrev pub node_name : World → Name → ℕ → Name
node_name world view node =
    marked (label_of world sorts.Node (towers.base_node (tower_of world view) node))
    (node_marks (tower_of world view) node)

abbrev pub origin_label : World → Origin → Name
origin_label world (FromArc arc) = label_of world sorts.Arc arc
origin_label world (FromNode node) = label_of world sorts.Node node

abbrev pub arc_name : World → Name → ℕ → Name
arc_name world view arc =
    marked (origin_label world (arc_origin (tower_of world view) arc))
    (arc_marks (tower_of world view) arc)

-- the node that the view shows under this name
abbrev pub node_named : World → Name → Name → Option ℕ
node_named world view name =
    find (λ node. bytes_eq (node_name world view node) name) (shown_by world view).nodes

abbrev pub node_line : World → Name → ℕ → NodeLine
node_line world view node = record { id = node; name = node_name world view node }

abbrev pub arc_line : World → Name → ShownArc → ArcLine
arc_line world view arc = record {
  id = arc.id;
  name = arc_name world view arc.id;
  from = node_name world view arc.from;
  to = node_name world view arc.to;
}

-- ---- who reads a map

-- whether the layer names the map of the sort
abbrev pub reads : ItemSort → Name → LayerWord → Bool
reads sorts.Node map (words.Sub nodes arcs) = option_map_or (bytes_eq map) nodes false
reads sorts.Arc map (words.Sub nodes arcs) = option_map_or (bytes_eq map) arcs false
reads sorts.Arc map (words.Residual cap flow) = bytes_eq map cap || bytes_eq map flow
reads _ map _ = false
