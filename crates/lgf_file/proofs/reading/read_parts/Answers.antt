use Rattle.std.proofs.Common.{subst}
use Rattle.std.proofs.lemmas.Result.{err_from_is_err_and}
use Rattle.lgf_file.specs.Reading.{GraphBlames, rows_at}
use Rattle.lgf_file.proofs.SectionsRead.{graph_blamed, attributes_blamed, both_blamed}
use Rattle.lgf_file.proofs.reading.read_parts.Goals as goal
use Rattle.lgf_file.proofs.reading.read_parts.Goals.{in-Ok-read_attributes}
use Rattle.lgf_file.proofs.reading.read_parts.Goals.{in-Err-Memory-read_attributes}
use Rattle.lgf_file.proofs.reading.read_parts.Goals.{in-Err-Lgf-read_attributes}

pub returns-in_err-attributes-in-Ok-clause-bad : goal.returns-in_err-attributes-in-Ok-clause-bad
returns-in_err-attributes-in-Ok-clause-bad c =
    let graph = c.in-Ok.ensures in
    let p = err_from_is_err_and c.from_residual.result c.from_residual.ensures.1 in
    rw (p.1, p.2) (attributes_blamed _ _ _ c.in-Ok.graph.nodes c.in-Ok.graph.arc_columns
    c.in-Ok.graph.arcs c.in_err-attributes-in-Ok.field-0.0 graph.nodes graph.nodes_spelled
    graph.arcs graph.arcs_spelled c.in_err-attributes-in-Ok.ensures.bad)

pub returns-after-read_attributes-clause-bad : goal.returns-after-read_attributes-clause-bad
returns-after-read_attributes-clause-bad c =
    let nodes = rows_at c.args.nodes.now.at c.args.nodes.now.rest.now in
    let arcs = rows_at c.args.arcs.now.at c.args.arcs.now.rest.now in
    let fault = c.in-Err-Lgf.fault in
    let bad = subst (GraphBlames nodes arcs) c.in-Err-Lgf.field-0-is c.in-Err-Lgf.ensures.bad in
    elim c.match-read_attributes.branch [
      | in-Ok-read_attributes w ↦
          let read = w.in-Ok-read_attributes in
          rw w.result-is
          (graph_blamed nodes arcs _ fault bad read.field-0 read.ensures.attributes
          read.ensures.spelled)
      | in-Err-Memory-read_attributes w ↦
          rw w.result-is tt
      | in-Err-Lgf-read_attributes w ↦
          let read = w.in-Err-Lgf-read_attributes in
          rw (w.result-is, w.earlier.ensures)
          (both_blamed nodes arcs _ fault bad read.other
          (rw read.field-0-is at read.ensures.bad))
    ]
