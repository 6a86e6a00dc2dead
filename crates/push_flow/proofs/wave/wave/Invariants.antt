use Rattle.std.proofs.Common.{◌-◌, length}
use Rattle.push_flow.specs.Search.{IsWave}
use Rattle.push_flow.specs.Slices.{at, task_of}
use Rattle.push_flow.proofs.wave.wave.Given as goal

abbrev pub invariant-loop-head : goal.invariant-loop-head
invariant-loop-head l =
    IsWave (task_of (length l.fn.height) l.ends l.cap) (at l.flow) (at l.excess) (at l.want)
    (at l.before) (at l.height) (at l.queue) l.found l.head l.tail

abbrev pub decreases-loop-head : goal.decreases-loop-head
decreases-loop-head l = length l.fn.height - l.head
