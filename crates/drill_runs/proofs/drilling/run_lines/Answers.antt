use Rattle.std.proofs.Common.{◌≡◌, ℕ, ◌+◌, ◌∙◌, subst, arith}
use Rattle.plain_machine.specs.Built.{Answers}
use Rattle.plain_machine.specs.Runs.{Run}
use Rattle.plain_machine.specs.Drill.{first_lines, drill_text, accepted_in, refused_in}
use Rattle.drill_runs.proofs.drilling.run_lines.Goals as goal

from_none : (n : ℕ) → 0 + n ≡ n
from_none n = omega arith

pub returns-clause-drilled : goal.returns-clause-drilled
returns-clause-drilled g c =
    let first = c.in_ok-answer_first.ensures.opened in
    let begun = g.D.Desk.plain c.answer_first.new.desk in
    let counted = c.in_ok-counts.ensures.counted in
    let accepted = counted.accepted_is ∙ from_none (accepted_in counted.said) in
    let refused = counted.refused_is ∙ from_none (refused_in counted.said) in
    let nodes = c.live-nodes.ensures in
    let arcs = c.live-arcs.ensures in
    record {
      opening = first.0;
      begun = begun;
      opened = subst (λ world. Run Answers world 1 first_lines first.0 begun)
          c.in_ok-desk.ensures.loaded first.1;
      drawn = counted.said;
      ran = counted.ran;
      text_is = c.in_ok-text.ensures
          ∙ (λ i. drill_text (accepted i) (refused i) (nodes i) (arcs i));
    }
