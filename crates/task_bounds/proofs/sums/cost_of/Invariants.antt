use Rattle.std.proofs.Common.{◌≡◌, ◌*◌, ◌^◌, pos, neg_ℤ, ◌*ℤ◌, ◌≤ℤ◌}
use Rattle.plain_certificates.specs.Numbered.{sum_to}
use Rattle.plain_certificates.specs.Tables.{at}
use Rattle.task_bounds.proofs.sums.cost_of.Given as goal

abbrev pub invariant-loop-k : goal.invariant-loop-k
invariant-loop-k l = record {
  is : l.total ≡ sum_to l.k (λ j. at (pos 0) l.cost j *ℤ at (pos 0) l.flow j);
  low : neg_ℤ (pos (2 ^ 99 * l.k)) ≤ℤ l.total;
  high : l.total ≤ℤ pos (2 ^ 99 * l.k);
}
