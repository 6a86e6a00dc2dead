use Rattle.std.proofs.Common.{◌≡◌, ◌<◌, ◌≤◌, ◌^◌, ℕ, Some, pos, length}
use Rattle.plain_certificates.specs.Tables.{at}
use Rattle.task_bounds.specs.Given.{IsSpan}
use Rattle.task_bounds.proofs.given.spans_of.Given as goal

abbrev pub invariant-loop-k : goal.invariant-loop-k
invariant-loop-k l = record {
  sized : length l.caps.items ≡ l.all;
  done : (j : ℕ) → j < l.k
      → IsSpan (at (pos 0) l.lower j) (Some (at (pos 0) l.upper j)) (at 0 l.caps.items j);
  rest : (j : ℕ) → length l.lower ≤ j → j < l.all → at 0 l.caps.items j ≡ 2 ^ 62;
}
