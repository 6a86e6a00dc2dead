use Rattle.std.proofs.Common.{◌+◌, length}
use Rattle.pivot_flow.specs.Send.{IsBetween, IsSent}
use Rattle.pivot_flow.specs.Tree.{at, task_of, tree_of}
use Rattle.pivot_flow.proofs.send.send.Given as goal

abbrev pub invariant-loop-a : goal.invariant-loop-a
invariant-loop-a l =
    let t = task_of (length l.parent) l.ends l.cap in
    let h = tree_of l.parent l.arc l.depth in
    record {
      sent : IsSent t h (at l.initial.flow) (at l.flow) l.i l.j l.a l.b l.step;
      on : IsBetween t h l.i l.j l.found.apex l.a l.b;
    }

abbrev pub decreases-loop-a : goal.decreases-loop-a
decreases-loop-a l = at l.depth l.a + at l.depth l.b
