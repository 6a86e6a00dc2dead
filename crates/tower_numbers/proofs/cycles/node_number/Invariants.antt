use Rattle.std.proofs.Common.{◌≤◌, ◌-◌}
use Rattle.std.specs.Prelude.{◌==◌}
use Rattle.plain_certificates.specs.Tables.{at}
use Rattle.view_numbers.specs.Breaches.{NoneBefore}
use Rattle.tower_numbers.proofs.cycles.node_number.Given as goal

abbrev pub invariant-loop-number : goal.invariant-loop-number
invariant-loop-number l = record {
  inside : l.number ≤ l.count;
  none : NoneBefore l.number (λ k. at 0 l.g.nodes k == l.node);
}

abbrev pub decreases-loop-number : goal.decreases-loop-number
decreases-loop-number l = l.count - l.number
