use Rattle.std.proofs.Common.{◌≡◌, ◌≤◌, length, take, cond}
use Rattle.std.specs.Prelude.{not}
use Rattle.view_tower.specs.Origins.{is_turned}
use Rattle.view_tower.specs.Layers.{tower_of}
use Rattle.view_tower.proofs.pulled.goes_back.Given as goal

abbrev pub invariant-down : goal.invariant-down
invariant-down l = record {
  within : l.at ≤ length l.fn.layers;
  same :
      cond l.back (not (is_turned (tower_of (take l.at l.fn.layers)) l.id))
      (is_turned (tower_of (take l.at l.fn.layers)) l.id)
      ≡ is_turned (tower_of l.fn.layers) l.fn.arc;
}

abbrev pub decreases-down : goal.decreases-down
decreases-down l = l.at
