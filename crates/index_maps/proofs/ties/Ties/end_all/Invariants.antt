use Rattle.std.proofs.Common.{◌≡◌}
use Rattle.plain_digraph.specs.Rising.{without_item}
use Rattle.observe_core.specs.Held.{tied_id}
use Rattle.columns.specs.Views.{extent_of}
use Rattle.index_maps.specs.TieEntries.{HasNoneBelow}
use Rattle.index_maps.specs.TieViews.{ties_of}
use Rattle.index_maps.proofs.ties.Ties.end_all.Given as goal

abbrev pub invariant-loop-tie : goal.invariant-loop-tie
invariant-loop-tie l = record {
  rest : without_item tied_id l.id (ties_of l.self) ≡ without_item tied_id l.id (ties_of l.fn.self);
  ended : HasNoneBelow l.tie l.id (ties_of l.self);
  extent : extent_of l.self.column ≡ extent_of l.fn.self.column;
}
