use Rattle.std.proofs.Common.{◌≤◌, ◌-◌, length, take, All}
use Rattle.view_tower.specs.Layers.{HasMaps}
use Rattle.view_tests.specs.Columns.{has_int, has_bool}
use Rattle.view_tests.proofs.columns.have_maps.Given as goal

abbrev pub invariant-up : goal.invariant-up
invariant-up l = record {
  within : l.at ≤ length l.fn.layers;
  all : All (HasMaps has_int has_bool) (take l.at l.fn.layers);
}

abbrev pub decreases-up : goal.decreases-up
decreases-up l = length l.fn.layers - l.at
