use Rattle.std.proofs.Common.{◌≡◌, map, take}
use Rattle.pair_match.specs.Facing.{flags, turned_ends}
use Rattle.pair_match.proofs.facing.turned.Given as goal

abbrev pub invariant-loop-old : goal.invariant-loop-old
invariant-loop-old l =
    l.new.items ≡ map (λ e. turned_ends (flags l.left e.from) e) (take l.old-index l.ends)
