use Rattle.std.proofs.Common.{◌≡◌, ◌+◌, ◌*◌, ◌^◌, length}
use Rattle.std.specs.BinaryHeap.{heap_items}
use Rattle.plain_certificates.specs.Tables.{at}
use Rattle.static_digraph.specs.Fixed.{graph_of}
use Rattle.path_search.specs.Queue.{entries_of}
use Rattle.pace_search.specs.Climbs.{open_count}
use Rattle.pace_search.specs.Rounds.{AreSized}
use Rattle.path_search.specs.Steps.{IsSearching}
use Rattle.path_search.proofs.nearest.search.Given as goal

abbrev pub invariant-loop-key : goal.invariant-loop-key
invariant-loop-key l = record {
  sizes : AreSized (graph_of l.g) l.len l.dist l.via;
  turns : length l.turn ≡ (graph_of l.g).nodes;
  search : IsSearching (graph_of l.g) (at 0 l.len) l.s (at 0 l.dist) (at 0 l.via) (at 0 l.turn)
      l.count (entries_of (heap_items l.queue.heap));
  unsettled : l.count + open_count l.turn ≡ (graph_of l.g).nodes;
}

abbrev pub decreases-loop-key : goal.decreases-loop-key
decreases-loop-key l = open_count l.turn * 2 ^ 64 + length (entries_of (heap_items l.queue.heap))
