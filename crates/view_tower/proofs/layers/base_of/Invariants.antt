use Rattle.std.proofs.Common.{◌≡◌, ◌≤◌, length, take}
use Rattle.plain_views.specs.Towers.{base_node}
use Rattle.view_tower.specs.Layers.{tower_of}
use Rattle.view_tower.proofs.layers.base_of.Given as goal

abbrev pub invariant-down : goal.invariant-down
invariant-down l = record {
  within : l.at ≤ length l.fn.layers;
  same : base_node (tower_of (take l.at l.fn.layers)) l.id
      ≡ base_node (tower_of l.fn.layers) l.fn.node;
}

abbrev pub decreases-down : goal.decreases-down
decreases-down l = l.at
