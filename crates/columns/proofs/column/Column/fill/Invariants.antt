use Rattle.std.proofs.Common.{◌≡◌, [], drop}
use Rattle.observe_core.specs.Held.{entry_id}
use Rattle.observe_core.specs.Items.{place_all}
use Rattle.columns.specs.Views.{entries_of, entries_told, StaysBlank, ExtendsToAll}
use Rattle.columns.specs.Filling.{FreshEntries}
use Rattle.columns.proofs.column.Column.fill.Given as goal

abbrev pub invariant-loop-f : goal.invariant-loop-f
invariant-loop-f g l = record {
  target : place_all entry_id (entries_told l.filler (drop l.f-index l.all)) (entries_of l.self)
      ≡ place_all entry_id (entries_told l.filler l.all) [];
  fresh : FreshEntries (drop l.f-index l.all) (entries_of l.self);
  blank : StaysBlank l.filler l.fn.self l.self;
  extent : ExtendsToAll l.all l.fn.self l.self;
}
