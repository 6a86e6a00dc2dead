use Rattle.std.proofs.Common.{◌++◌, map, ap, ◌∙◌}
use Rattle.std.specs.Prelude.{codes}
use Rattle.std.specs.List.{flat_map}
use Rattle.std.proofs.lemmas.Result.{on_ok_weaker}
use Rattle.token_text.specs.Lines.{ended}
use Rattle.lgf_file.specs.Plain.{row_text}
use Rattle.plain_world.specs.Documents.{doc_of}
use Rattle.desk_seats.specs.contracts.seat.SeatObserver.TheImpl.{watch-value}
use Rattle.desk_world.specs.Plain.{plain_of}
use Rattle.desk_world.proofs.Saved.{section_joined}
use Rattle.desk_world.proofs.saving.World+Seat+B.push_node_lines.Goals as goal

pub returns : goal.returns
returns g c =
    let w = (watch-value g.row.B g.B.Observer g.B.Observer-dict g.B.Destruct-dict).it in
    let nodes = (doc_of (plain_of w c.args.self.now)).nodes in
    let front = c.args.out.now.items in
    let rows = flat_map ended (map row_text nodes.rows) in
    let columns = c.as_slice.ensures ∙ c.in_ok-columns.ensures in
    let head = c.in_ok-push_row.ensures
    ∙ (λ i. c.in_ok-extend_from_slice.ensures.items i ++ ended (row_text (columns i))) in
    on_ok_weaker c.push_node_rows.result
    (λ is. is
    ∙ ap (λ own. own ++ rows) head
    ∙ section_joined front (codes "@nodes\n") (ended (row_text nodes.columns)) rows)
    c.push_node_rows.ensures
