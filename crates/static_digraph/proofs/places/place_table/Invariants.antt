use Rattle.std.proofs.Common.{◌≤◌, ◌≡◌, length}
use Rattle.static_digraph.specs.Places.{IsTableFrom}
use Rattle.static_digraph.proofs.places.place_table.Given as goal

abbrev pub invariant-loop-i : goal.invariant-loop-i
invariant-loop-i l = record {
  below : l.i ≤ length l.ids;
  sized : length l.table.items ≡ l.size;
  told : IsTableFrom l.ids l.table.items l.i;
}

abbrev pub decreases-loop-i : goal.decreases-loop-i
decreases-loop-i l = l.i
