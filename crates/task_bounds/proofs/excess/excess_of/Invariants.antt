use Rattle.std.proofs.Common.{◌≡◌, pos, length}
use Rattle.plain_certificates.specs.Tables.{at}
use Rattle.static_digraph.specs.Fixed.{graph_of}
use Rattle.task_bounds.specs.Excess.{first_arcs, IsTaken}
use Rattle.task_bounds.proofs.excess.excess_of.Given as goal

abbrev pub invariant-loop-arc : goal.invariant-loop-arc
invariant-loop-arc l = record {
  sized : length l.excess.items ≡ (graph_of l.g).nodes;
  taken : IsTaken (first_arcs (graph_of l.g) l.arc) (at (pos 0) l.lower) (at (pos 0) l.supply)
      (at (pos 0) l.excess.items);
}
