use Rattle.std.proofs.Common.{◌≡◌, map, take, pos}
use Rattle.path_search.proofs.lengths.unsigned_lengths.Given as goal

abbrev pub invariant-loop-l : goal.invariant-loop-l
invariant-loop-l l = map pos l.lens.items ≡ take l.l-index l.len
