use Rattle.std.proofs.Common.{◌+◌, length}
use Rattle.pivot_flow.specs.Look.{IsLook}
use Rattle.pivot_flow.specs.Tree.{at, task_of, tree_of}
use Rattle.pivot_flow.proofs.look.look.Given as goal

abbrev pub invariant-loop-a : goal.invariant-loop-a
invariant-loop-a l = IsLook (task_of (length l.parent) l.ends l.cap)
    (tree_of l.parent l.arc l.depth) (at l.flow) l.i l.j l.room l.a l.b l.step l.leaves

abbrev pub decreases-loop-a : goal.decreases-loop-a
decreases-loop-a l = at l.depth l.a + at l.depth l.b
