use Rattle.std.proofs.Common.{[], true, false, refl}
use Rattle.observe_core.specs.Held.{Degree}
use Rattle.graph_tests.proofs.Following.{fits_new}
use Rattle.graph_tests.proofs.maps.degrees.Goals as goal

pub loop-at-init : goal.loop-at-init
loop-at-init g c =
    record {
      from = fits_new (Degree true []) (λ v. refl) _ _ c.new-from.ensures c.new-facts.ensures;
      to = fits_new (Degree false []) (λ v. refl) _ _ c.new-to.ensures c.new-others.ensures;
    }
