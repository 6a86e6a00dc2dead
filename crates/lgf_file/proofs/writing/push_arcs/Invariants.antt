use Rattle.std.proofs.Common.{◌≡◌, ◌++◌, take, map}
use Rattle.std.specs.List.{flat_map}
use Rattle.token_text.specs.Lines.{ended}
use Rattle.lgf_file.specs.Documents.{node_labels, link_cells}
use Rattle.lgf_file.specs.Plain.{row_text}
use Rattle.lgf_file.proofs.writing.push_arcs.Given as goal

abbrev pub invariant-loop-arc : goal.invariant-loop-arc
invariant-loop-arc l =
    let labels = node_labels l.fn.doc.nodes in
    let texts = map (λ arc. row_text (link_cells labels arc)) (take l.arc-index l.arc-items) in
    l.out.items ≡ l.initial.out.items ++ flat_map ended texts
