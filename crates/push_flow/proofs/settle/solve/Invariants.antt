use Rattle.std.proofs.Common.{length}
use Rattle.push_flow.specs.Held.{supply_of, IsHeld, toil}
use Rattle.push_flow.specs.Search.{IsWave}
use Rattle.push_flow.specs.Slices.{at, task_of, AreNodes}
use Rattle.push_flow.proofs.settle.solve.Given as goal

abbrev pub invariant-loop-waved : goal.invariant-loop-waved
invariant-loop-waved l =
    let n = length l.fn.height in
    let t = task_of n l.ends l.cap in
    record {
      was : IsHeld t (supply_of t (at l.fn.flow) (at l.fn.excess) (at l.fn.want)) (at l.flow) (at
          l.excess) (at l.want) (at l.before);
      wave : IsWave t (at l.flow) (at l.excess) (at l.want) (at l.before) (at l.height) (at
          l.queue) l.waved.found l.waved.tail l.waved.tail;
      ring : AreNodes n l.ring;
    }

abbrev pub decreases-loop-waved : goal.decreases-loop-waved
decreases-loop-waved l = toil (length l.fn.height) (at l.excess) (at l.height)
