use Rattle.observe_core.specs.Fits.{Fits}
use Rattle.fact_table.specs.Table.{facts_of}
use Rattle.value_maps.specs.Views.{bools_seen}
use Rattle.index_maps.specs.TrueViews.{trues_seen}
use Rattle.graph_tests.proofs.maps.bools_and_true_items.Given as goal

abbrev pub invariant-loop-at : goal.invariant-loop-at
invariant-loop-at g l = record {
  map : Fits (bools_seen l.map) (facts_of l.facts);
  trues : Fits (trues_seen l.trues) (facts_of l.others);
}
