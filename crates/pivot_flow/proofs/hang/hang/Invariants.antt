use Rattle.std.proofs.Common.{◌≤◌, length, []}
use Rattle.pivot_flow.specs.Kids.{AreKids, bare, links_of}
use Rattle.pivot_flow.specs.Tree.{at, task_of, tree_of}
use Rattle.pivot_flow.specs.Turn.{IsTurning}
use Rattle.pivot_flow.proofs.hang.hang.Given as goal

abbrev pub invariant-loop-child : goal.invariant-loop-child
invariant-loop-child l =
    let n = length l.initial.parent in
    let h = tree_of l.initial.parent l.initial.arc l.depth in
    record {
      turning : IsTurning (task_of n l.ends []) h (at l.parent) (at l.arc) l.inner l.outer
          l.entering l.child l.hook l.by;
      kids : AreKids (bare n) (links_of l.first l.next l.prev) (at l.parent);
      above : at l.depth (at l.initial.parent l.x) ≤ at l.depth l.child;
    }

abbrev pub decreases-loop-child : goal.decreases-loop-child
decreases-loop-child l = at l.depth l.child
