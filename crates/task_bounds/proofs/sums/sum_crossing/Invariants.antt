use Rattle.std.proofs.Common.{◌≡◌, ◌*◌, ◌^◌, pos, neg_ℤ, ◌-ℤ◌, ◌≤ℤ◌, false}
use Rattle.plain_certificates.specs.Cuts.{enters, leaves}
use Rattle.plain_certificates.specs.Numbered.{sum_where}
use Rattle.plain_certificates.specs.Tables.{at}
use Rattle.static_digraph.specs.Fixed.{graph_of}
use Rattle.task_bounds.proofs.sums.sum_crossing.Given as goal

abbrev pub invariant-loop-arc : goal.invariant-loop-arc
invariant-loop-arc l =
    let g = graph_of l.g in
    record {
      is : l.total
          ≡ sum_where l.arc (leaves g (at false l.set)) (at (pos 0) l.out)
          -ℤ sum_where l.arc (enters g (at false l.set)) (at (pos 0) l.into);
      low : neg_ℤ (pos (2 ^ 36 * l.arc)) ≤ℤ l.total;
      high : l.total ≤ℤ pos (2 ^ 36 * l.arc);
    }
