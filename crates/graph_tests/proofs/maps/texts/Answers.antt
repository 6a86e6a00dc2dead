use Rattle.std.proofs.Common.{[], refl}
use Rattle.observe_core.specs.Held.{Values, Texts}
use Rattle.graph_tests.proofs.Following.{fits_new}
use Rattle.graph_tests.proofs.maps.texts.Goals as goal

pub loop-at-init : goal.loop-at-init
loop-at-init g c =
    fits_new (Values Texts []) refl _ _ c.new-map.ensures c.new-facts.ensures
