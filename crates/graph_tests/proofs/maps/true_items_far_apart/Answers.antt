use Rattle.std.proofs.Common.{[], refl}
use Rattle.observe_core.specs.Held.{Values, Trues}
use Rattle.graph_tests.proofs.Following.{fits_new}
use Rattle.graph_tests.proofs.maps.true_items_far_apart.Goals as goal

pub loop-id-init : goal.loop-id-init
loop-id-init g c =
    fits_new (Values Trues []) refl _ _ c.new-trues.ensures c.new-facts.ensures
