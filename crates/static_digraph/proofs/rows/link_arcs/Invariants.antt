use Rattle.std.proofs.Common.{◌≤◌, length}
use Rattle.plain_certificates.specs.Tables.{at}
use Rattle.static_digraph.specs.Rows.{AreLinked}
use Rattle.static_digraph.proofs.rows.link_arcs.Given as goal

abbrev pub invariant-loop-arc : goal.invariant-loop-arc
invariant-loop-arc l = record {
  below : l.arc ≤ length l.ends;
  links : AreLinked l.nodes (length l.ends) (at 0 l.ends) l.first.items l.next.items l.arc;
}

abbrev pub decreases-loop-arc : goal.decreases-loop-arc
decreases-loop-arc l = l.arc
