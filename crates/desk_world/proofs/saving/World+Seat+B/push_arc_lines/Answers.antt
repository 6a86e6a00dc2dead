use Rattle.std.proofs.Common.{◌++◌, map, ap, ◌∙◌}
use Rattle.std.specs.Prelude.{codes}
use Rattle.std.specs.List.{flat_map}
use Rattle.std.proofs.lemmas.Result.{on_ok_weaker}
use Rattle.token_text.specs.Lines.{ended}
use Rattle.lgf_file.specs.Documents.{node_labels, link_cells}
use Rattle.lgf_file.specs.Plain.{row_text, head_text}
use Rattle.lgf_file.specs.declared.documents.Link.{Link}
use Rattle.plain_world.specs.Documents.{doc_of}
use Rattle.desk_seats.specs.contracts.seat.SeatObserver.TheImpl.{watch-value}
use Rattle.desk_world.specs.Plain.{plain_of}
use Rattle.desk_world.proofs.Saved.{section_joined}
use Rattle.desk_world.proofs.saving.World+Seat+B.push_arc_lines.Goals as goal

pub returns : goal.returns
returns g c =
    let w = (watch-value g.row.B g.B.Observer g.B.Observer-dict g.B.Destruct-dict).it in
    let doc = doc_of (plain_of w c.args.self.now) in
    let front = c.args.out.now.items in
    let labels = node_labels doc.nodes in
    let rows = flat_map ended (map (λ (arc : Link). row_text (link_cells labels arc)) doc.arcs) in
    let columns = c.as_slice.ensures ∙ c.in_ok-columns.ensures in
    let head = c.in_ok-push_head.ensures
    ∙ (λ i. c.in_ok-extend_from_slice.ensures.items i ++ ended (head_text (columns i))) in
    on_ok_weaker c.push_arc_rows.result
    (λ is. is
    ∙ ap (λ own. own ++ rows) head
    ∙ section_joined front (codes "@arcs\n") (ended (head_text doc.arc_columns)) rows)
    c.push_arc_rows.ensures
