use Rattle.std.proofs.Common.{◌≡◌, ◌+◌, ◌-◌, length}
use Rattle.push_flow.specs.Search.{IsReach}
use Rattle.push_flow.specs.Slices.{at, spoke_at, task_of}
use Rattle.push_flow.proofs.wave.reach.Given as goal

abbrev pub invariant-loop-p : goal.invariant-loop-p
invariant-loop-p l = record {
  reach : IsReach (task_of (length l.initial.height) l.ends l.cap) (at l.start) (spoke_at l.row) (at
      l.flow) (at l.excess) (at l.want) (at l.before) (at l.height) (at l.queue) l.found l.head
      l.tail l.p;
  same_v : at l.queue l.head ≡ l.v;
  same_over : at l.height l.v + 1 ≡ l.over;
}

abbrev pub decreases-loop-p : goal.decreases-loop-p
decreases-loop-p l = l.end - l.p
