use Rattle.observe_core.specs.Fits.{Fits}
use Rattle.fact_table.specs.Table.{facts_of}
use Rattle.value_maps.specs.Views.{texts_seen}
use Rattle.graph_tests.proofs.maps.texts.Given as goal

abbrev pub invariant-loop-at : goal.invariant-loop-at
invariant-loop-at g l = Fits (texts_seen l.map) (facts_of l.facts)
