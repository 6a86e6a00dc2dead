use Rattle.std.proofs.Common.{◌≡◌, [], drop}
use Rattle.observe_core.specs.Held.{entry_id}
use Rattle.observe_core.specs.Items.{place_all}
use Rattle.columns.specs.Views.{entries_told}
use Rattle.columns.specs.Filling.{FreshEntries}
use Rattle.value_maps.specs.Views.{texts_of}
use Rattle.value_maps.proofs.texts.TextMap.fill.Given as goal

abbrev pub invariant-loop-f : goal.invariant-loop-f
invariant-loop-f l = record {
  target : place_all entry_id (entries_told [] (drop l.f-index l.all)) (texts_of l.self)
      ≡ place_all entry_id (entries_told [] l.all) [];
  fresh : FreshEntries (drop l.f-index l.all) (texts_of l.self);
}
