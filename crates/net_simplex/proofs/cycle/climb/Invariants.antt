use Rattle.std.proofs.Common.{◌≡◌, ◌<◌, ◌++◌, length}
use Rattle.plain_certificates.specs.Tables.{at}
use Rattle.pivot_flow.specs.Tree.{ComesTo, tree_of}
use Rattle.net_simplex.specs.Cycles.{ups_to}
use Rattle.net_simplex.proofs.cycle.climb.Given as goal

abbrev pub invariant-loop-here : goal.invariant-loop-here
invariant-loop-here l =
    let h = tree_of l.parent l.arc l.depth in
    record {
      inside : l.here < length l.parent;
      above : ComesTo h l.here l.top;
      laid : l.path.items ++ ups_to h l.top l.here ≡ l.initial.path.items ++ ups_to h l.top l.node;
    }

abbrev pub decreases-loop-here : goal.decreases-loop-here
decreases-loop-here l = at 0 l.depth l.here
