use Rattle.std.proofs.Common.{◌≡◌, ◌≤◌, ◌+◌, ◌-◌, Some, vec_len}
use Rattle.edge_io.specs.Causes.{NeverFall, StayedSame}
use Rattle.edge_io.specs.Files.{Files}
use Rattle.edge_io.proofs.Pieces.{Begins}
use Rattle.edge_io.proofs.whole.read_whole.Given as goal

abbrev pub invariant-loop-chunk : goal.invariant-loop-chunk
invariant-loop-chunk g l = record {
  room : vec_len l.bytes ≤ l.limit + 1;
  begins : (all : Files) → g.S.Shelf.files l.initial.shelf ≡ Some all
      → Begins all l.name l.bytes.items;
  same : g.S.Shelf.files l.shelf ≡ g.S.Shelf.files l.initial.shelf;
  reads : NeverFall (g.S.Shelf.read_faults l.initial.shelf) (g.S.Shelf.read_faults l.shelf);
  stores : NeverFall (g.S.Shelf.store_faults l.initial.shelf) (g.S.Shelf.store_faults l.shelf);
  quiet_reads : StayedSame (g.S.Shelf.read_faults l.initial.shelf) (g.S.Shelf.read_faults l.shelf);
  quiet_stores : StayedSame (g.S.Shelf.store_faults l.initial.shelf)
      (g.S.Shelf.store_faults l.shelf);
}

abbrev pub decreases-loop-chunk : goal.decreases-loop-chunk
decreases-loop-chunk g l = l.limit + 1 - vec_len l.bytes
