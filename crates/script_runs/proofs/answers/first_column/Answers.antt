use Rattle.std.proofs.Common.{◌≤◌, length, sym, subst}
use Rattle.token_text.proofs.Places.{blanks_end, ends_length}
use Rattle.script_runs.proofs.answers.first_column.Goals as goal

pub overflow_sub-result : goal.overflow_sub-result
overflow_sub-result c =
    let line = c.args.line.now in
    subst (λ rest. length rest ≤ length line) (sym c.after_blanks.ensures)
    (ends_length line _ (blanks_end line))
