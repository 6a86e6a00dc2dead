use Rattle.observe_core.specs.Fits.{Fits}
use Rattle.fact_table.specs.Table.{facts_of}
use Rattle.index_maps.specs.TieViews.{ties_seen}
use Rattle.graph_tests.proofs.maps.ties.Given as goal

abbrev pub invariant-loop-at : goal.invariant-loop-at
invariant-loop-at g l = Fits (ties_seen l.ties) (facts_of l.facts)
