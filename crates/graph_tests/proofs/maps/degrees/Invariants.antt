use Rattle.observe_core.specs.Fits.{Fits}
use Rattle.fact_table.specs.Table.{facts_of}
use Rattle.index_maps.specs.DegreeViews.{degree_seen}
use Rattle.graph_tests.proofs.maps.degrees.Given as goal

abbrev pub invariant-loop-at : goal.invariant-loop-at
invariant-loop-at g l = record {
  from : Fits (degree_seen l.from) (facts_of l.facts);
  to : Fits (degree_seen l.to) (facts_of l.others);
}
