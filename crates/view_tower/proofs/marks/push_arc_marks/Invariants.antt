use Rattle.std.proofs.Common.{◌≡◌, ◌≤◌, ◌++◌, length, take, reverse}
use Rattle.plain_views.specs.Marks.{arc_marks}
use Rattle.view_tower.specs.Layers.{tower_of}
use Rattle.view_tower.proofs.marks.push_arc_marks.Given as goal

abbrev pub invariant-down : goal.invariant-down
invariant-down l = record {
  within : l.at ≤ length l.fn.layers;
  same :
      arc_marks (tower_of (take l.at l.fn.layers)) l.id ++ reverse l.out.items
      ≡ arc_marks (tower_of l.fn.layers) l.fn.arc ++ reverse l.fn.out.items;
}

abbrev pub decreases-down : goal.decreases-down
decreases-down l = l.at
