use Rattle.std.proofs.Common.{◌≡◌, cond, map, take}
use Rattle.pair_match.proofs.loads.by_side.Given as goal

abbrev pub invariant-loop-l : goal.invariant-loop-l
invariant-loop-l l = l.list.items ≡ map (λ x. cond x l.on l.off) (take l.l-index l.left)
