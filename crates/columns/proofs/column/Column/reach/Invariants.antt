use Rattle.std.proofs.Common.{◌≡◌, ◌+◌, ◌-◌}
use Rattle.columns.specs.Views.{entries_of, StaysBlank, ExtendsTo, extent_of}
use Rattle.columns.proofs.column.Column.reach.Given as goal

abbrev pub invariant-loop-filler : goal.invariant-loop-filler
invariant-loop-filler g l = record {
  same : entries_of l.self ≡ entries_of l.fn.self;
  blank : StaysBlank l.filler l.fn.self l.self;
  extent : ExtendsTo l.id l.fn.self l.self;
}

abbrev pub decreases-loop-filler : goal.decreases-loop-filler
decreases-loop-filler g l = l.id + 1 - extent_of l.self
