use Rattle.std.proofs.Common.{◌≡◌, ◌≤◌, length, take}
use Rattle.view_tower.specs.Layers.{tower_of}
use Rattle.desk_world.specs.Flows.{shows_single}
use Rattle.desk_world.proofs.flows.shows_single.Given as goal

abbrev pub invariant-down : goal.invariant-down
invariant-down l = record {
  within : l.at ≤ length l.fn.layers;
  same : shows_single (tower_of (take l.at l.fn.layers))
      ≡ shows_single (tower_of l.fn.layers);
}

abbrev pub decreases-down : goal.decreases-down
decreases-down l = l.at
