use Rattle.std.proofs.Common.{◌≡◌, sym, subst, ◌∙◌}
use Rattle.lgf_file.specs.Documents.{IsDoc}
use Rattle.lgf_file.specs.declared.documents.Doc.{Doc}
use Rattle.plain_world.specs.Documents.{doc_of}
use Rattle.plain_world.proofs.Documented.{document_ok}
use Rattle.desk_seats.specs.contracts.seat.SeatObserver.TheImpl.{watch-value}
use Rattle.desk_world.specs.Plain.{plain_of}
use Rattle.desk_world.proofs.documents.World+Seat+B.doc.Goals as goal

pub arc_rows-requires-clause-places : goal.arc_rows-requires-clause-places
arc_rows-requires-clause-places g c = c.as_slice.ensures.value ∙ c.in_ok-rows.ensures.places

pub returns : goal.returns
returns g c =
    let w = (watch-value g.row.B g.B.Observer g.B.Observer-dict g.B.Destruct-dict).it in
    let world = plain_of w c.args.self.now in
    let made : Doc = record {
      nodes = record { columns = c.in_ok-copy_columns.field-0; rows = c.from_vec.result };
      arc_columns = c.in_ok-copy_columns-2.field-0;
      arcs = c.in_ok-arc_rows.field-0;
      attributes = c.in_ok-copy_attributes.field-0;
    } in
    let same : made ≡ doc_of world = λ i. record {
      nodes = record {
        columns = c.in_ok-copy_columns.ensures i;
        rows = (c.from_vec.ensures ∙ c.in_ok-rows.ensures.rows) i;
      };
      arc_columns = c.in_ok-copy_columns-2.ensures i;
      arcs = c.in_ok-arc_rows.ensures i;
      attributes = c.in_ok-copy_attributes.ensures i;
    } in
    record {
      doc = same;
      valid = subst IsDoc (sym same) (document_ok world c.requires.valid);
    }
