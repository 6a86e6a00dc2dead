use Rattle.std.proofs.Common.{◌≡◌, ◌*◌, ◌^◌, pos, neg_ℤ, ◌≤ℤ◌, take}
use Rattle.plain_certificates.specs.Tables.{at}
use Rattle.plain_certificates.specs.Walks.{along}
use Rattle.task_bounds.proofs.sums.cost_along.Given as goal

abbrev pub invariant-loop-i : goal.invariant-loop-i
invariant-loop-i l = record {
  is : l.total ≡ along (at (pos 0) l.cost) (take l.i l.arcs);
  low : neg_ℤ (pos (2 ^ 36 * l.i)) ≤ℤ l.total;
  high : l.total ≤ℤ pos (2 ^ 36 * l.i);
}
