use Rattle.std.proofs.Common.{◌≡◌, false, [], drop}
use Rattle.observe_core.specs.Held.{entry_id}
use Rattle.observe_core.specs.Items.{place_all}
use Rattle.columns.specs.Views.{entries_told}
use Rattle.columns.specs.Filling.{FreshEntries}
use Rattle.index_maps.specs.TrueViews.{trues_of}
use Rattle.index_maps.proofs.trues.TrueItems.fill.Given as goal

abbrev pub invariant-loop-f : goal.invariant-loop-f
invariant-loop-f l = record {
  target : place_all entry_id (entries_told false (drop l.f-index l.all)) (trues_of l.self)
      ≡ place_all entry_id (entries_told false l.all) [];
  fresh : FreshEntries (drop l.f-index l.all) (trues_of l.self);
}
