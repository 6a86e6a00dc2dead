use Rattle.std.proofs.Common.{◌≡◌, ◌≤◌, ◌++◌, length, take, reverse}
use Rattle.plain_views.specs.Marks.{node_marks}
use Rattle.view_tower.specs.Layers.{tower_of}
use Rattle.view_tower.proofs.marks.push_node_marks.Given as goal

abbrev pub invariant-down : goal.invariant-down
invariant-down l = record {
  within : l.at ≤ length l.fn.layers;
  same :
      node_marks (tower_of (take l.at l.fn.layers)) l.id ++ reverse l.out.items
      ≡ node_marks (tower_of l.fn.layers) l.fn.node ++ reverse l.fn.out.items;
}

abbrev pub decreases-down : goal.decreases-down
decreases-down l = l.at
