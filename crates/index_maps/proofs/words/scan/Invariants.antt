use Rattle.index_maps.specs.Bits.{NoneWithin, has_bits}
use Rattle.index_maps.proofs.words.scan.Given as goal

abbrev pub invariant-loop-at : goal.invariant-loop-at
invariant-loop-at l = NoneWithin (has_bits l.words) l.from l.at
