use Rattle.std.proofs.Common.{drop}
use Rattle.static_digraph.specs.Fixed.{graph_of}
use Rattle.flow_mincost.specs.Pushing.{IsMoving}
use Rattle.flow_mincost.proofs.pushing.push_round.Given as goal

abbrev pub invariant-loop-i : goal.invariant-loop-i
invariant-loop-i l =
    IsMoving (graph_of l.g) l.cap l.ahead l.step l.round (drop l.i l.round) l.fn.sent l.sent
