use Rattle.std.proofs.lemmas.Result.{err_from_is_err_and}
use Rattle.lgf_file.proofs.SectionsRead.{nodes_blamed, arcs_blamed}
use Rattle.lgf_file.proofs.reading.read_graph.Goals as goal

pub returns-in_err-arc_columns-clause-bad : goal.returns-in_err-arc_columns-clause-bad
returns-in_err-arc_columns-clause-bad c =
    let p = err_from_is_err_and c.from_residual-in_err-arc_columns.result
    c.from_residual-in_err-arc_columns.ensures.1 in
    let read = c.in_ok-nodes.ensures in
    rw (p.1, p.2) (arcs_blamed _ _ c.in_ok-nodes.nodes _ _ read.table read.spelled read.labels
    c.in_err-arc_columns.ensures.bad)

pub returns-in_err-nodes-clause-bad : goal.returns-in_err-nodes-clause-bad
returns-in_err-nodes-clause-bad c =
    let p = err_from_is_err_and c.from_residual.result c.from_residual.ensures.1 in
    rw (p.1, p.2) (nodes_blamed _ _ _ c.in_err-nodes.ensures.bad)
