use Rattle.std.proofs.Common.{◌^◌, ◌≤◌, length}
use Rattle.pivot_flow.specs.Kids.{AreKids, bare, links_of}
use Rattle.pivot_flow.specs.Open.{IsOpenFree}
use Rattle.pivot_flow.specs.Spread.{price_at}
use Rattle.pivot_flow.specs.State.{IsState, height_of, sends_of}
use Rattle.pivot_flow.specs.Tree.{at, task_of, tree_of}
use Rattle.pivot_flow.proofs.pivots.solve.Given as goal

abbrev pub invariant-loop-entering : goal.invariant-loop-entering
invariant-loop-entering l =
    let n = length l.initial.parent in
    let t = task_of n l.ends l.cap in
    record {
      start : l.start ≤ l.front;
      free : IsOpenFree t (at l.flow) (2 ^ 37);
      kids : AreKids (bare n) (links_of l.first l.next l.prev) (at l.parent);
      state : IsState t (sends_of t (at l.initial.flow)) (price_at l.cost)
          (tree_of l.parent l.arc l.depth) (at l.flow) (price_at l.price);
    }

abbrev pub decreases-loop-entering : goal.decreases-loop-entering
decreases-loop-entering l = height_of (task_of (length l.initial.parent) l.ends l.cap)
    (price_at l.cost) (at l.flow) (price_at l.price)
