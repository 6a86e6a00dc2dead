use Rattle.std.proofs.Common.{◌-◌, ◌≤◌, length}
use Rattle.push_flow.specs.Search.{AreRoots}
use Rattle.push_flow.specs.Slices.{at}
use Rattle.push_flow.proofs.wave.roots.Given as goal

abbrev pub invariant-loop-v : goal.invariant-loop-v
invariant-loop-v l = record {
  inside : l.v ≤ length l.want;
  roots : AreRoots (length l.want) (at l.want) (at l.height) (at l.queue) l.v l.tail;
}

abbrev pub decreases-loop-v : goal.decreases-loop-v
decreases-loop-v l = length l.want - l.v
