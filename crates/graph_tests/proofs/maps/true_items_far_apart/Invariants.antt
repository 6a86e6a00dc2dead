use Rattle.std.specs.Prelude.{ℕ}
use Rattle.observe_core.specs.Fits.{Fits}
use Rattle.fact_table.specs.Table.{facts_of}
use Rattle.index_maps.specs.TrueViews.{trues_seen}
use Rattle.graph_tests.proofs.maps.true_items_far_apart.Given as goal

abbrev pub invariant-loop-id : goal.invariant-loop-id
invariant-loop-id g l = Fits (trues_seen l.trues) (facts_of l.facts)
