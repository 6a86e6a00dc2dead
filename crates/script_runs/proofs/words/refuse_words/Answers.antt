use Rattle.std.proofs.Common.{refl, sym, ◌∙◌, take}
use Rattle.plain_machine.specs.Words.{usage}
use Rattle.script_runs.proofs.Results.{at_ok, at_err}
use Rattle.script_runs.proofs.words.refuse_words.Goals as goal

pub returns-then-is_err-clause-ends : goal.returns-then-is_err-clause-ends
returns-then-is_err-clause-ends g c =
    let failed = sym c.is_err.ensures.value ∙ c.if-is_err.true in
    let part = at_err c.write_piece.result failed c.write_piece.ensures.part in
    let cause = at_err c.write_piece.result failed c.write_piece.ensures.cause in
    (take part.0 usage, part.2, ((part.0, refl), cause))

pub returns-else-is_err-clause-ends : goal.returns-else-is_err-clause-ends
returns-else-is_err-clause-ends g c =
    let all = at_ok c.write_piece.result (sym c.is_err.ensures.value
    ∙ c.if-is_err.false) c.write_piece.ensures.all in
    (usage, all, refl)
