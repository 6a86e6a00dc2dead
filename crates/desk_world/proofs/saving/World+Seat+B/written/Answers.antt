use Rattle.std.proofs.Common.{◌++◌, ap, ◌∙◌}
use Rattle.std.specs.List.{flat_map}
use Rattle.token_text.specs.Lines.{ended}
use Rattle.lgf_file.specs.Documents.{node_labels}
use Rattle.lgf_file.specs.Plain.{node_lines, arc_lines, attribute_lines}
use Rattle.plain_world.specs.Documents.{doc_of}
use Rattle.desk_seats.specs.contracts.seat.SeatObserver.TheImpl.{watch-value}
use Rattle.desk_world.specs.Plain.{plain_of}
use Rattle.desk_world.proofs.Saved.{parts_joined}
use Rattle.desk_world.proofs.saving.World+Seat+B.written.Goals as goal

pub returns : goal.returns
returns g c =
    let w = (watch-value g.row.B g.B.Observer g.B.Observer-dict g.B.Destruct-dict).it in
    let doc = doc_of (plain_of w c.args.self.now) in
    let arcs = arc_lines (node_labels doc.nodes) doc.arc_columns doc.arcs in
    let attributes = attribute_lines doc.attributes in
    c.in_ok-push_attribute_lines.ensures
    ∙ ap (λ own. own ++ flat_map ended attributes)
    (c.in_ok-push_arc_lines.ensures
    ∙ ap (λ own. own ++ flat_map ended arcs) (c.in_ok-push_node_lines.ensures
    ∙ ap (λ start. start ++ flat_map ended (node_lines doc.nodes)) c.new-out.ensures.items))
    ∙ parts_joined (node_lines doc.nodes) arcs attributes
