use Rattle.std.proofs.Common.{◌≡◌, ◌-◌, ◌*◌, ◌≤◌, ◌^◌, cond, eqb, pos, length}
use Rattle.plain_certificates.specs.Numbered.{sum_to}
use Rattle.push_flow.specs.Slices.{at, ends_at}
use Rattle.flow_preflow.proofs.sent.sent_by.Given as goal

abbrev pub invariant-loop-arc : goal.invariant-loop-arc
invariant-loop-arc l = record {
  below : l.arc ≤ length l.ends;
  sent : pos l.sent
      ≡ sum_to l.arc (λ k. cond (eqb (ends_at l.ends k).from l.node) (pos (at l.flow k)) (pos 0));
  taken : pos l.taken
      ≡ sum_to l.arc (λ k. cond (eqb (ends_at l.ends k).to l.node) (pos (at l.flow k)) (pos 0));
  few_sent : l.sent ≤ l.arc * 2 ^ 36;
  few_taken : l.taken ≤ l.arc * 2 ^ 36;
}

abbrev pub decreases-loop-arc : goal.decreases-loop-arc
decreases-loop-arc l = length l.ends - l.arc
