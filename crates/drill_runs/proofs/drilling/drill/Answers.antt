use Rattle.std.proofs.Common.{take, inr, refl, sym, ap, ◌∙◌, subst}
use Rattle.plain_machine.specs.Built.{Answers}
use Rattle.plain_machine.specs.Drill.{Drilled}
use Rattle.script_runs.proofs.Results.{at_ok, at_err}
use Rattle.drill_runs.proofs.drilling.drill.Goals as goal

pub returns-then-is_err-clause-ends : goal.returns-then-is_err-clause-ends
returns-then-is_err-clause-ends g c =
    let failed = sym c.is_err.ensures.value ∙ c.if-is_err.true in
    let part = at_err c.write_piece.result failed c.write_piece.ensures.part in
    let cause = at_err c.write_piece.result failed c.write_piece.ensures.cause in (
      take part.0 c.as_slice.result.now,
      part.2,
      (
        g.D.Desk.plain c.in-Ok.drilled.desk,
        c.in-Ok.drilled.text.items,
        c.in-Ok.ensures.drilled,
        (part.0, ap (take part.0) c.as_slice.ensures.value),
        cause,
      ),
    )

pub returns-else-is_err-clause-ends : goal.returns-else-is_err-clause-ends
returns-else-is_err-clause-ends g c =
    let done = sym c.is_err.ensures.value ∙ c.if-is_err.false in
    let all = at_ok c.write_piece.result done c.write_piece.ensures.all in (
      c.as_slice.result.now,
      all,
      (
        g.D.Desk.plain c.in-Ok.drilled.desk,
        subst (Drilled Answers (g.D.Desk.kinds c.args.pool) c.args.seed c.args.lines
            (g.D.Desk.plain c.in-Ok.drilled.desk)) (sym c.as_slice.ensures.value)
            c.in-Ok.ensures.drilled,
        refl,
      ),
    )

pub returns-else-is_err-clause-quiet : goal.returns-else-is_err-clause-quiet
returns-else-is_err-clause-quiet g c =
    let done = sym c.is_err.ensures.value ∙ c.if-is_err.false in
    inr (at_ok c.write_piece.result done c.write_piece.ensures.quiet)
