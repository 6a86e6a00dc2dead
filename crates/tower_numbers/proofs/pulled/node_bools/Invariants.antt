use Rattle.std.proofs.Common.{◌≡◌, ◌≤◌, ◌-◌, map, take}
use Rattle.plain_views.specs.Towers as towers
use Rattle.view_tower.specs.Layers.{tower_of}
use Rattle.tower_numbers.proofs.pulled.node_bools.Given as goal

abbrev pub invariant-loop-node : goal.invariant-loop-node
invariant-loop-node g l = record {
  inside : l.node ≤ l.count;
  bools : l.bools.items
      ≡ map (towers.node_bool (g.V.Values.values l.values) (tower_of l.layers) l.number)
      (take l.node l.g.nodes);
}

abbrev pub decreases-loop-node : goal.decreases-loop-node
decreases-loop-node g l = l.count - l.node
