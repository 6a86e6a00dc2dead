use Rattle.observe_core.specs.Fits.{Fits}
use Rattle.fact_table.specs.Table.{facts_of}
use Rattle.index_maps.specs.RefViews.{refs_seen}
use Rattle.graph_tests.proofs.maps.labels.Given as goal

abbrev pub invariant-loop-at : goal.invariant-loop-at
invariant-loop-at g l = Fits (refs_seen l.refs) (facts_of l.facts)
