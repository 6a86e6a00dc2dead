use Rattle.std.proofs.Common.{◌≡◌, ◌≤◌, ◌-◌, map, take}
use Rattle.plain_views.specs.Towers as towers
use Rattle.view_tower.specs.Layers.{tower_of}
use Rattle.tower_numbers.proofs.pulled.wide_arc_ints.Given as goal

abbrev pub invariant-loop-arc : goal.invariant-loop-arc
invariant-loop-arc g l = record {
  inside : l.arc ≤ l.count;
  ints : l.ints.items
      ≡ map (towers.arc_int (g.V.Values.values l.values) (tower_of l.layers) l.number)
      (take l.arc l.g.arcs);
}

abbrev pub decreases-loop-arc : goal.decreases-loop-arc
decreases-loop-arc g l = l.count - l.arc
