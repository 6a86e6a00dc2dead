-- What the layers of a kept view read: maps by the seats that they have, and their present values.
use Rattle.std.specs.Prelude.{◌≡◌, ℕ, Bool, true, false, ℤ, pos, List, [], ◌∷◌, Option, None, Some}
use Rattle.std.specs.Prelude.{unwrap_or}
use Rattle.std.specs.FinMap as fin
use Rattle.std.specs.Option.{option_map_or}
use Rattle.base_items.specs.declared.items.ItemSort.TheVariants.{Node, Arc}
use Rattle.base_items.specs.declared.limits.TheConstants.{MAX_LAYERS}
use Rattle.script_words.specs.declared.commands.LayerWord.{LayerWord}
use Rattle.script_words.specs.declared.commands.LayerWord.TheVariants as words
use Rattle.notify_chain.specs.declared.key.SeatKey.{SeatKey}
use Rattle.observe_core.specs.declared.kinds.KeptShape.{KeptShape}
use Rattle.observe_core.specs.declared.kinds.KeptShape.TheVariants as shapes
use Rattle.observe_core.specs.Seen.{Seen}
use Rattle.plain_views.specs.Towers.{Layer, Sub, Residual}
use Rattle.plain_world.specs.Tables.{Name, Named, entry}
use Rattle.plain_world.specs.World.{View}
use Rattle.plain_world.specs.Views.{layers_up_to}
use Rattle.kept_walks.specs.Present.{Present}
use Rattle.desk_world.specs.declared.tables.MapKind.{MapKind}
use Rattle.desk_world.specs.declared.tables.MapKind.TheVariants as maps
use Rattle.desk_world.specs.declared.tables.MapRow.{MapRow}
use Rattle.desk_world.specs.declared.tables.ItemTables.{ItemTables}
use Rattle.desk_world.specs.declared.tables.KeptMaps.{KeptMaps}
use Rattle.desk_world.specs.Columns.{ints_of, bools_of}
use Rattle.desk_world.specs.Looks.{Look}

-- ---- the layers of a kept view

-- one sub, one residual, or a residual over a sub, each with the names of its maps
pub data KeptLayers : Type 0 where
  OneSub : (nodes arcs : Option Name) → KeptLayers
  OneResidual : (cap flow : Name) → KeptLayers
  Both : (cap flow : Name) (nodes arcs : Option Name) → KeptLayers

-- the top layer first
abbrev pub layers_in : KeptLayers → List (Layer Name)
layers_in (OneSub nodes arcs) = Sub nodes arcs ∷ []
layers_in (OneResidual cap flow) = Residual cap flow ∷ []
layers_in (Both cap flow nodes arcs) = Residual cap flow ∷ Sub nodes arcs ∷ []

abbrev pub shape_in : KeptLayers → KeptShape
shape_in (OneSub nodes arcs) = shapes.Sub
shape_in (OneResidual cap flow) = shapes.Residual
shape_in (Both cap flow nodes arcs) = shapes.ResidualOverSub

-- the maps that they name
abbrev pub node_filter : KeptLayers → Option Name
node_filter (OneSub nodes arcs) = nodes
node_filter (OneResidual cap flow) = None
node_filter (Both cap flow nodes arcs) = nodes

abbrev pub arc_filter : KeptLayers → Option Name
arc_filter (OneSub nodes arcs) = arcs
arc_filter (OneResidual cap flow) = None
arc_filter (Both cap flow nodes arcs) = arcs

abbrev pub cap_map : KeptLayers → Option Name
cap_map (OneSub nodes arcs) = None
cap_map (OneResidual cap flow) = Some cap
cap_map (Both cap flow nodes arcs) = Some cap

abbrev pub flow_map : KeptLayers → Option Name
flow_map (OneSub nodes arcs) = None
flow_map (OneResidual cap flow) = Some flow
flow_map (Both cap flow nodes arcs) = Some flow

abbrev pub is_sub : LayerWord → Bool
is_sub (words.Sub nodes arcs) = true
is_sub words.Reverse = false
is_sub words.Undirect = false
is_sub words.Split = false
is_sub (words.Residual cap flow) = false

-- ---- the seats of the maps

-- the seat is that of the map of the name, which is of the kind
pub record IsSeatOf (table : List (Named MapRow)) (kind : MapKind) (name : Name) (key : SeatKey)
    : Type 0 where
  pub row : MapRow
  pub found : entry table name ≡ Some row
  pub typed : row.kind ≡ kind
  pub same : row.key ≡ key

-- a seat is known exactly where a map is named
abbrev pub AreSeatsOf : List (Named MapRow) → MapKind → Option Name → Option SeatKey → Type 0
AreSeatsOf table kind None None = Unit {0}
AreSeatsOf table kind None (Some key) = ⊥
AreSeatsOf table kind (Some name) None = ⊥
AreSeatsOf table kind (Some name) (Some key) = IsSeatOf table kind name key

-- the seats are those of the maps that these layers name, which are of the types that they read
pub record AreMapsOf (layers : KeptLayers) (nodes arcs : List (Named MapRow)) (m : KeptMaps)
    : Type 0 where
  pub shape : m.shape ≡ shape_in layers
  pub node_filter : AreSeatsOf nodes maps.Bools (node_filter layers) m.node_filter
  pub arc_filter : AreSeatsOf arcs maps.Bools (arc_filter layers) m.arc_filter
  pub cap : AreSeatsOf arcs maps.Ints (cap_map layers) m.cap
  pub flow : AreSeatsOf arcs maps.Ints (flow_map layers) m.flow

-- and the view of the name has just these layers
pub record ReadsMaps (nodes arcs : ItemTables) (views : List (Named View)) (name : Name)
    (m : KeptMaps) : Type 0 where
  pub layers : KeptLayers
  pub are : layers_up_to MAX_LAYERS views name ≡ layers_in layers
  pub maps : AreMapsOf layers nodes.maps.rows arcs.maps.rows m

-- ---- present values

-- what the map in a seat has for an id: the default where it has no value
abbrev pub bool_seen : Option Seen → ℕ → Bool
bool_seen seen id =
    option_map_or (λ (s : Seen). unwrap_or (fin.get (bools_of s.held) id) false) seen false

abbrev pub int_seen : Option Seen → ℕ → ℤ
int_seen seen id =
    option_map_or (λ (s : Seen). unwrap_or (fin.get (ints_of s.held) id) (pos 0)) seen (pos 0)

-- whether an item passes the filter in a seat, if there is one
abbrev pub passes : (ℕ → Option Seen) → Option SeatKey → ℕ → Bool
passes look None id = true
passes look (Some key) id = bool_seen (look key.0) id

-- the amount at an item by the map in a seat; 0 where there is none
abbrev pub amount : (ℕ → Option Seen) → Option SeatKey → ℕ → ℤ
amount look None id = pos 0
amount look (Some key) id = int_seen (look key.0) id

-- the values that a kept view is placed by. Where it has no filter all pass, and where it has no
-- residual there is no room.
abbrev pub present_in : Look → KeptMaps → Present
present_in look m = record {
  keeps_node = passes (look Node) m.node_filter;
  keeps_arc = passes (look Arc) m.arc_filter;
  cap = amount (look Arc) m.cap;
  flow = amount (look Arc) m.flow;
}
