use Rattle.std.proofs.Common.{[], refl}
use Rattle.observe_core.specs.Held.{Values, Labels}
use Rattle.graph_tests.proofs.Following.{fits_new}
use Rattle.graph_tests.proofs.maps.labels.Goals as goal

pub loop-at-init : goal.loop-at-init
loop-at-init g c =
    fits_new (Values Labels []) refl _ _ c.new-refs.ensures c.new-facts.ensures
