use Rattle.std.proofs.Common.{◌-◌, ◌<◌, ◌≤◌}
use Rattle.net_simplex.proofs.solved.block_of.Given as goal

abbrev pub invariant-loop-block : goal.invariant-loop-block
invariant-loop-block l = record {
  some : 0 < l.block;
  few : l.block ≤ 8192;
}

abbrev pub decreases-loop-block : goal.decreases-loop-block
decreases-loop-block l = 8192 - l.block
