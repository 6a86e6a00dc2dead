use Rattle.std.proofs.Common.{◌≡◌, ◌<◌, ℕ, pos, neg_ℤ, cond, length}
use Rattle.plain_certificates.specs.Tables.{at}
use Rattle.flow_circulate.specs.Parts.{IsPart}
use Rattle.flow_circulate.proofs.loads.parts_of.Given as goal

abbrev pub invariant-loop-v : goal.invariant-loop-v
invariant-loop-v l = record {
  sized : length l.parts.items ≡ length l.values;
  done : (j : ℕ) → j < l.v
      → IsPart (cond l.turned (neg_ℤ (at (pos 0) l.values j)) (at (pos 0) l.values j))
      (at 0 l.parts.items j);
}
