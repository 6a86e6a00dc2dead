use Rattle.std.proofs.Common.{[], refl}
use Rattle.observe_core.specs.Held.{Values, Bools, Trues}
use Rattle.graph_tests.proofs.Following.{fits_new}
use Rattle.graph_tests.proofs.maps.bools_and_true_items.Goals as goal

pub loop-at-init : goal.loop-at-init
loop-at-init g c =
    record {
      map = fits_new (Values Bools []) refl _ _ c.new-map.ensures c.new-facts.ensures;
      trues = fits_new (Values Trues []) refl _ _ c.new-trues.ensures c.new-others.ensures;
    }
