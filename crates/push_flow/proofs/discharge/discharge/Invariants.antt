use Rattle.std.proofs.Common.{◌-◌, ◌<◌, length}
use Rattle.push_flow.specs.Held.{supply_of, toil}
use Rattle.push_flow.specs.Search.{IsScan}
use Rattle.push_flow.specs.Slices.{at, spoke_at, task_of, AreNodes}
use Rattle.push_flow.proofs.discharge.discharge.Given as goal

abbrev pub invariant-loop-p : goal.invariant-loop-p
invariant-loop-p l =
    let n = length l.height in
    let t = task_of n l.ends l.cap in
    record {
      scan : IsScan t (supply_of t (at l.initial.flow) (at l.initial.excess)
          (at l.initial.want)) (at l.start) (spoke_at l.row) (at l.flow) (at l.excess) (at l.want)
          (at l.height) l.v l.p l.least (toil n (at l.initial.excess) (at l.height));
      ring : AreNodes n l.ring;
      tail : l.tail < length l.ring;
    }

abbrev pub decreases-loop-p : goal.decreases-loop-p
decreases-loop-p l = l.end - l.p
