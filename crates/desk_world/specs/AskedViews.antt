-- Views by number, as queries read them, and the values that their items pull.
use Rattle.std.specs.Prelude.{◌≡◌, ℕ, ◌<◌, ◌≤◌, ℤ, Bool, List, length, map, Option, None, Some}
use Rattle.plain_world.specs.Tables.{Name}
use Rattle.plain_world.specs.Views.{shown_by, arcs_of, arc_value, node_value, is_left}
use Rattle.plain_world.specs.World.{World}
use Rattle.view_numbers.specs.Listed.{Numbers}
use Rattle.view_tower.specs.Layers.{tower_of}
use Rattle.desk_world.specs.MapNumbers.{numbered_tower}
use Rattle.desk_world.specs.declared.asked_views.AskedView.{AskedView}

-- the layers are those of the view, and the numbers are of what it shows
pub record Asks (world : World) (asked : AskedView) : Type 0 where
  pub layers : tower_of asked.layers.items ≡ numbered_tower world asked.view.now
  pub few : length asked.layers.items ≤ 8
  pub numbers : Numbers (shown_by world asked.view.now) asked.fixed

module _ (world : World) (view : Name) where
  -- the ints of a map on the arcs of a view, in its order
  abbrev pub arc_values : Name → List ℤ
  arc_values name = map (λ arc. arc_value world view name arc.id) (arcs_of world view)

  -- those at its nodes
  abbrev pub node_values : Name → List ℤ
  node_values name = map (node_value world view name) (shown_by world view).nodes

  -- which of its nodes are left, by a bool map
  abbrev pub left_nodes : Name → List Bool
  left_nodes name = map (is_left world view name) (shown_by world view).nodes

-- a number that may be absent is below the count
abbrev pub IsBelow : ℕ → Option ℕ → Type 0
IsBelow count None = Unit {0}
IsBelow count (Some number) = number < count
