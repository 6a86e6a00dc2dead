use Rattle.std.proofs.Common.{◌+◌, ◌≤◌, length, take}
use Rattle.std.specs.BinaryHeap.{heap_items}
use Rattle.plain_certificates.specs.Tables.{at}
use Rattle.static_digraph.specs.Fixed.{graph_of}
use Rattle.path_search.specs.Queue.{entries_of}
use Rattle.pace_search.specs.Rounds.{AreSized}
use Rattle.path_search.specs.Steps.{Relaxes}
use Rattle.path_search.proofs.nearest.expand.Given as goal

abbrev pub invariant-loop-arc : goal.invariant-loop-arc
invariant-loop-arc l = record {
  sizes : AreSized (graph_of l.g) l.len l.dist l.via;
  search : Relaxes (graph_of l.g) (at 0 l.len) l.u l.near (take l.arc-index l.row)
      (at 0 l.initial.dist) (at 0 l.initial.via) (entries_of (heap_items l.initial.queue.heap))
      (at 0 l.dist) (at 0 l.via) (entries_of (heap_items l.queue.heap));
  grows : length (entries_of (heap_items l.queue.heap))
      ≤ length (entries_of (heap_items l.initial.queue.heap)) + l.arc-index;
}
