use Rattle.std.proofs.Common.{◌≡◌, false}
use Rattle.token_text.specs.Lines.{is_passed_over}
use Rattle.plain_machine.specs.Built.{Answers}
use Rattle.script_runs.proofs.Results.{at_some}
use Rattle.drill_runs.proofs.Counts.{counted_answered}
use Rattle.drill_runs.proofs.counting.count_line.Goals as goal

pub returns-in-Some-clause-counted : goal.returns-in-Some-clause-counted
returns-in-Some-clause-counted g c = λ number.
    let said = at_some (λ answer. (is_passed_over c.args.line.now ≡ false)
    × Answers (g.D.Desk.plain c.args.desk.now) c.args.line.now answer
    (g.D.Desk.plain c.answer_line.new.desk))
    c.in_ok-answer_line.field-0 c.in-Some.answer c.in-Some.is
    c.in_ok-answer_line.ensures.answered in
    counted_answered _ _ number c.args.line.now c.in-Some.answer c.args.counts
    c.count_answer-now.result said.0 said.1 (c.count_answer-now.ensures.accepted number)
    (c.count_answer-now.ensures.refused number)
