use Rattle.std.proofs.Common.{[], ◌∙◌, arith}
use Rattle.std.proofs.lemmas.List.{get_or_read}
use Rattle.std.proofs.lemmas.Option.{slice_get_within, get_or_from_slice_get}
use Rattle.lgf_file.proofs.ArcRows.{source_unknown, target_unknown}
use Rattle.lgf_file.proofs.arcs.ends_of.Goals as goal

pub returns-in_err-from-clause-none : goal.returns-in_err-from-clause-none
returns-in_err-from-clause-none c =
    let cells = c.args.cells.now in
    let is = get_or_read cells 0 c.index-cells-0.result (omega arith) c.index-cells-0.is [] in
    rw c.from_residual.ensures
    (source_unknown c.args.nodes.now cells (rw is at c.in_err-from.ensures))

pub returns-in_err-to-clause-none : goal.returns-in_err-to-clause-none
returns-in_err-to-clause-none c =
    let cells = c.args.cells.now in
    let is = get_or_read cells 1 c.index-cells-1.result (omega arith) c.index-cells-1.is [] in
    rw c.from_residual-in_err-to.ensures
    (target_unknown c.args.nodes.now cells (rw is at c.in_err-to.ensures))

pub returns-clause-found : goal.returns-clause-found
returns-clause-found c =
    let nodes = c.args.nodes.now in
    let cells = c.args.cells.now in
    record {
      from_in = slice_get_within nodes c.in_ok-from.from _ c.in_ok-from.ensures;
      to_in = slice_get_within nodes c.in_ok-to.to _ c.in_ok-to.ensures;
      from_is =
          get_or_from_slice_get nodes c.in_ok-from.from _ [] c.in_ok-from.ensures
          ∙ get_or_read cells 0 c.index-cells-0.result (omega arith) c.index-cells-0.is [];
      to_is =
          get_or_from_slice_get nodes c.in_ok-to.to _ [] c.in_ok-to.ensures
          ∙ get_or_read cells 1 c.index-cells-1.result (omega arith) c.index-cells-1.is [];
    }
