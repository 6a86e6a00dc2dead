use Rattle.std.proofs.Common.{◌≡◌, map}
use Rattle.std.specs.Ordering.{nat_cmp}
use Rattle.std.specs.Cmp.Lexicographic.{slice_cmp}
use Rattle.std.specs.FinMap.{get, find}
use Rattle.std.specs.VecDeque.Iter.{deque_iter_rest}
use Rattle.edge_io.specs.Memory.{entry_of}
use Rattle.edge_io.proofs.mem_shelf.MemShelf.file.Given as goal

abbrev pub invariant-loop-key : goal.invariant-loop-key
invariant-loop-key l = get l.self.files l.name ≡ find (slice_cmp nat_cmp) l.name
    (map (entry_of (λ v. v.items)) (deque_iter_rest l.key-iterator))
