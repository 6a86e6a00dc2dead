use Rattle.std.proofs.Common.{◌≡◌, ◌≤◌, ◌-◌, cond, length, map}
use Rattle.std.specs.List.{range_with_len}
use Rattle.plain_certificates.specs.Tables.{at}
use Rattle.pair_match.specs.Facing.{flags}
use Rattle.pair_match.proofs.loads.kept_right.Given as goal

abbrev pub invariant-loop-v : goal.invariant-loop-v
invariant-loop-v l = record {
  below : l.v ≤ length l.left;
  listed : l.kept.items
      ≡ map (λ u. cond (flags l.left u) 0 (at 0 l.excess u)) (range_with_len 0 l.v);
}

abbrev pub decreases-loop-v : goal.decreases-loop-v
decreases-loop-v l = length l.left - l.v
