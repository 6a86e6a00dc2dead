use Rattle.std.proofs.Common.{◌≡◌, ◌*◌, ◌^◌, pos, neg_ℤ, ◌≤ℤ◌, false}
use Rattle.plain_certificates.specs.Numbered.{sum_where}
use Rattle.plain_certificates.specs.Tables.{at}
use Rattle.task_bounds.proofs.sums.sum_chosen.Given as goal

abbrev pub invariant-loop-v : goal.invariant-loop-v
invariant-loop-v l = record {
  is : l.total ≡ sum_where l.v (at false l.chosen) (at (pos 0) l.values);
  low : neg_ℤ (pos (2 ^ 36 * l.v)) ≤ℤ l.total;
  high : l.total ≤ℤ pos (2 ^ 36 * l.v);
}
