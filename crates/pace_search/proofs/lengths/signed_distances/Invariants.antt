use Rattle.std.proofs.Common.{◌≡◌, take}
use Rattle.pace_search.specs.Runs.{signed_all}
use Rattle.pace_search.proofs.lengths.signed_distances.Given as goal

abbrev pub invariant-loop-d : goal.invariant-loop-d
invariant-loop-d l = l.signed.items ≡ signed_all (take l.d-index l.dist)
