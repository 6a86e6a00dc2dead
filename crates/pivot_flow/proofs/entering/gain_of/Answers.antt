use Rattle.std.proofs.Common.{rules}
use Rattle.pivot_flow.proofs.entering.gain_of.Goals.{then-flow-k, else-flow-k}
use Rattle.pivot_flow.proofs.entering.gain_of.Goals.{then-flow-k-gt0, else-flow-k-gt0}
use Rattle.pivot_flow.proofs.entering.gain_of.Goals as goal

pub returns-else-ahead-back-clause-none : goal.returns-else-ahead-back-clause-none
returns-else-ahead-back-clause-none c =
    elim c.if-flow-k.branch [
      | then-flow-k a ↦ elim c.if-flow-k-gt0.branch [
        | then-flow-k-gt0 b ↦ search rules
        | else-flow-k-gt0 b ↦ search rules
      ]
      | else-flow-k a ↦ elim c.if-flow-k-gt0.branch [
        | then-flow-k-gt0 b ↦ search rules
        | else-flow-k-gt0 b ↦ search rules
      ]
    ]
