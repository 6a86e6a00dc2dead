use Rattle.std.proofs.Common.{subst, ◌∙◌}
use Rattle.std.proofs.lemmas.Result.{err_from_is_err_and}
use Rattle.lgf_file.specs.Faults.{arc_fault}
use Rattle.lgf_file.specs.Reading.{Blames, rows_at}
use Rattle.lgf_file.proofs.reading.read_arcs.Goals as goal

pub returns-in_err-read_rows-clause-bad : goal.returns-in_err-read_rows-clause-bad
returns-in_err-read_rows-clause-bad c =
    let lines = rows_at c.args.begun.now.at c.args.begun.now.rest.now in
    let p = err_from_is_err_and c.from_residual.result c.from_residual.ensures.1 in
    rw (p.1, p.2) (subst (λ labels. Blames (arc_fault labels) lines c.in_err-read_rows.field-0.0)
    c.new-reader.ensures.nodes c.in_err-read_rows.ensures.bad)

pub returns-clause-arcs : goal.returns-clause-arcs
returns-clause-arcs c =
    let read = c.in_ok-read_rows.ensures in
    rw (← read.labels ∙ c.new-reader.ensures.nodes) (c.finish.ensures.arcs read.fine)
