use Rattle.std.proofs.Common.{length, ◌-◌, ◌≡◌, ◌≤◌}
use Rattle.plain_certificates.specs.Tables.{at}
use Rattle.static_digraph.specs.Told.{arcs_told}
use Rattle.static_digraph.proofs.told.arc_facts.Given as goal

abbrev pub invariant-loop-arc : goal.invariant-loop-arc
invariant-loop-arc l = record {
  below : l.arc ≤ length l.from;
  told : l.facts.items ≡ arcs_told l.arc (at 0 l.from) (at 0 l.to);
}

abbrev pub decreases-loop-arc : goal.decreases-loop-arc
decreases-loop-arc l = length l.from - l.arc
