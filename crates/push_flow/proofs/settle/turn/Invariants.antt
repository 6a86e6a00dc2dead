use Rattle.std.proofs.Common.{◌<◌, ◌≤◌, length}
use Rattle.push_flow.specs.Held.{supply_of, IsHeld, toil}
use Rattle.push_flow.specs.Slices.{at, task_of, AreNodes}
use Rattle.push_flow.proofs.settle.turn.Given as goal

abbrev pub invariant-loop-i : goal.invariant-loop-i
invariant-loop-i l =
    let n = length l.fn.height in
    let t = task_of n l.ends l.cap in
    record {
      held : IsHeld t (supply_of t (at l.fn.flow) (at l.fn.excess) (at l.fn.want)) (at l.flow) (at
          l.excess) (at l.want) (at l.height);
      toil : toil n (at l.excess) (at l.height) < toil n (at l.fn.excess) (at l.fn.height);
      ring : AreNodes n l.ring;
      tail : l.tail < length l.ring;
      i : l.i ≤ l.size;
    }

abbrev pub decreases-loop-i : goal.decreases-loop-i
decreases-loop-i l = l.i

abbrev pub invariant-loop-fuel : goal.invariant-loop-fuel
invariant-loop-fuel l =
    let n = length l.fn.height in
    let t = task_of n l.ends l.cap in
    record {
      held : IsHeld t (supply_of t (at l.fn.flow) (at l.fn.excess) (at l.fn.want)) (at l.flow) (at
          l.excess) (at l.want) (at l.height);
      toil : toil n (at l.excess) (at l.height) < toil n (at l.fn.excess) (at l.fn.height);
      ring : AreNodes n l.ring;
      tail : l.tail < length l.ring;
      head : l.head < length l.ring;
    }

abbrev pub decreases-loop-fuel : goal.decreases-loop-fuel
decreases-loop-fuel l = l.fuel
