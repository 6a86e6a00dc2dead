use Rattle.std.proofs.Common.{[]}
use Rattle.observe_core.specs.Held.{Ties}
use Rattle.graph_tests.proofs.Following.{fits_new}
use Rattle.graph_tests.proofs.maps.ties.Goals as goal

pub loop-at-init : goal.loop-at-init
loop-at-init g c =
    fits_new (Ties []) tt _ _ c.new-ties.ensures c.new-facts.ensures
