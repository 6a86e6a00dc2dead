use Rattle.std.proofs.Common.{◌≡◌, ◌+◌, ◌-◌}
use Rattle.columns.specs.Views.{extent_of}
use Rattle.value_maps.specs.Views.{texts_of}
use Rattle.value_maps.proofs.texts.TextMap.reach.Given as goal

abbrev pub invariant-loop-self : goal.invariant-loop-self
invariant-loop-self l = texts_of l.self ≡ texts_of l.fn.self

abbrev pub decreases-loop-self : goal.decreases-loop-self
decreases-loop-self l = l.id + 1 - extent_of l.self.column
