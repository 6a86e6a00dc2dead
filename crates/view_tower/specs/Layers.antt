-- The layers of a tower in code go from the bottom up, and the plain tower's from the top down.
use Rattle.std.specs.Prelude.{◌≡◌, ℕ, Bool, true, List, map, reverse, Option, Some}
use Rattle.base_items.specs.declared.items.ItemSort.{ItemSort}
use Rattle.base_items.specs.declared.items.ItemSort.TheVariants as sorts
use Rattle.plain_views.specs.Towers as plain
use Rattle.plain_views.specs.Marks as marks
use Rattle.view_tower.specs.declared.layers.Origin.{Origin}
use Rattle.view_tower.specs.declared.layers.Origin.TheVariants.{Arc, Bind}
use Rattle.view_tower.specs.declared.layers.Layer.{Layer}
use Rattle.view_tower.specs.declared.layers.Layer.TheVariants.{Reverse, Sub, Undirect, Residual}
use Rattle.view_tower.specs.declared.layers.Layer.TheVariants.{Split}

-- the plain layer that this one is
abbrev pub layer_of : Layer → plain.Layer ℕ
layer_of Reverse = plain.Reverse
layer_of (Sub nodes arcs) = plain.Sub nodes arcs
layer_of Undirect = plain.Undirect
layer_of (Residual cap flow) = plain.Residual cap flow
layer_of Split = plain.Split

-- the plain tower of these layers
abbrev pub tower_of : List Layer → List (plain.Layer ℕ)
tower_of layers = reverse (map layer_of layers)

-- the plain origin that this one is
abbrev pub origin_of : Origin → marks.Origin
origin_of (Arc arc) = marks.FromArc arc
origin_of (Bind node) = marks.FromNode node

-- the test holds of the map, if one is named
abbrev pub IsGiven : (ℕ → Bool) → Option ℕ → Type 0
IsGiven test given = (map : ℕ) → given ≡ Some map → test map ≡ true

-- the maps that the layer names are there, each with the type that the layer needs
abbrev pub HasMaps : (ItemSort → ℕ → Bool) → (ItemSort → ℕ → Bool) → Layer → Type 0
HasMaps has_int has_bool (Sub nodes arcs) =
    IsGiven (has_bool sorts.Node) nodes × IsGiven (has_bool sorts.Arc) arcs
HasMaps has_int has_bool (Residual cap flow) =
    (has_int sorts.Arc cap ≡ true) × (has_int sorts.Arc flow ≡ true)
HasMaps has_int has_bool _ = Unit {0}
