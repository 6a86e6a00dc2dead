use Rattle.std.proofs.Common.{◌≡◌, ◌≤◌, length, take}
use Rattle.plain_views.specs.Marks.{arc_origin}
use Rattle.view_tower.specs.Layers.{tower_of}
use Rattle.view_tower.proofs.layers.arc_from.Given as goal

abbrev pub invariant-down : goal.invariant-down
invariant-down l = record {
  within : l.at ≤ length l.fn.layers;
  same : arc_origin (tower_of (take l.at l.fn.layers)) l.id
      ≡ arc_origin (tower_of l.fn.layers) l.fn.arc;
}

abbrev pub decreases-down : goal.decreases-down
decreases-down l = l.at
