use Rattle.std.proofs.Common.{[], refl}
use Rattle.observe_core.specs.Held.{Values, Ints}
use Rattle.graph_tests.proofs.Following.{fits_new}
use Rattle.graph_tests.proofs.maps.ints.Goals as goal

pub loop-at-init : goal.loop-at-init
loop-at-init g c =
    fits_new (Values Ints []) refl _ _ c.new-map.ensures c.new-facts.ensures
