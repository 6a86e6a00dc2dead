use Rattle.std.proofs.Common.{◌≡◌, ◌≤◌, ◌-◌, ◌&&◌, eqb, length, map}
use Rattle.std.specs.List.{range_with_len}
use Rattle.plain_certificates.specs.Tables.{at}
use Rattle.pair_match.specs.Facing.{flags}
use Rattle.pair_match.proofs.read.stuck_left.Given as goal

abbrev pub invariant-loop-v : goal.invariant-loop-v
invariant-loop-v l = record {
  below : l.v ≤ length l.left;
  listed : l.list.items
      ≡ map (λ u. flags l.left u && eqb (at 0 l.heights u) (length l.left))
      (range_with_len 0 l.v);
}

abbrev pub decreases-loop-v : goal.decreases-loop-v
decreases-loop-v l = length l.left - l.v
