use Rattle.std.proofs.Common.{◌≡◌, map, take, pos, ◌-ℤ◌}
use Rattle.pace_search.specs.Tree.{shift}
use Rattle.pace_search.proofs.lengths.shifted_lengths.Given as goal

abbrev pub invariant-loop-l : goal.invariant-loop-l
invariant-loop-l l = map (λ x. pos x -ℤ pos shift) l.lens.items ≡ take l.l-index l.len
