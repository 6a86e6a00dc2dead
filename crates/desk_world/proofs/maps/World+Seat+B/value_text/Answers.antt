use Rattle.std.proofs.Common.{ap, sym, ◌∙◌}
use Rattle.std.specs.Option.{option_copied}
use Rattle.std.proofs.lemmas.Result.{IfOk-weaker}
use Rattle.plain_world.specs.Tables.{entry}
use Rattle.desk_seats.specs.contracts.seat.SeatObserver.TheImpl.{watch-value}
use Rattle.desk_world.specs.declared.tables.ItemTables.{ItemTables}
use Rattle.desk_world.proofs.MapsTold.{reply_label, reply_missing, reply_row, reply_told}
use Rattle.desk_world.proofs.TableRows.{listed_entry}
use Rattle.desk_world.proofs.maps.World+Seat+B.value_text.Goals as goal

pub returns-then-is_label : goal.returns-then-is_label
returns-then-is_label g c =
    let w = (watch-value g.row.B g.B.Observer g.B.Observer-dict g.B.Destruct-dict).it in
    let label = reply_label w c.args.self.now c.args.sort c.args.map.now c.args.id
    (sym c.is_label.ensures ∙ c.if-is_label.true) in
    IfOk-weaker c.copy_text.result _ _
    (λ text is. is ∙ c.as_bytes.ensures ∙ c.label_of.ensures ∙ sym label) c.copy_text.ensures

pub returns-in_default : goal.returns-in_default
returns-in_default g c =
    let w = (watch-value g.row.B g.B.Observer g.B.Observer-dict g.B.Destruct-dict).it in
    let map = c.args.map.now in
    let found = sym (ap (λ (t : ItemTables). entry t.maps.rows map) c.tables.ensures)
    ∙ sym c.get.ensures.found ∙ ap option_copied c.in_default.is in
    c.new.ensures
    ∙ sym (reply_missing w c.args.self.now c.args.sort map c.args.id c.requires.in_step.seats
    (sym c.is_label.ensures ∙ c.if-is_label.false) found)

pub row_text-requires-clause-row : goal.row_text-requires-clause-row
row_text-requires-clause-row g c =
    let map = c.args.map.now in
    let found = sym (ap (λ (t : ItemTables). entry t.maps.rows map) c.tables.ensures)
    ∙ sym c.get.ensures.found ∙ ap option_copied c.in-Some.is in
    listed_entry _ map c.in-Some.row.now found

pub row_text-requires-clause-values : goal.row_text-requires-clause-values
row_text-requires-clause-values g c = sym c.has_values.ensures ∙ c.if-has_values.true

pub returns-then-has_values : goal.returns-then-has_values
returns-then-has_values g c =
    let w = (watch-value g.row.B g.B.Observer g.B.Observer-dict g.B.Destruct-dict).it in
    let map = c.args.map.now in
    let found = sym (ap (λ (t : ItemTables). entry t.maps.rows map) c.tables.ensures)
    ∙ sym c.get.ensures.found ∙ ap option_copied c.in-Some.is in
    IfOk-weaker c.row_text.result _ _
    (λ text told. reply_row w c.args.self.now c.args.sort map c.args.id
    c.requires.in_step.seats (sym c.is_label.ensures ∙ c.if-is_label.false) c.in-Some.row.now found
    (sym c.has_values.ensures ∙ c.if-has_values.true) text told)
    c.row_text.ensures

pub derived_text-requires-clause-row : goal.derived_text-requires-clause-row
derived_text-requires-clause-row g c =
    let map = c.args.map.now in
    let found = sym (ap (λ (t : ItemTables). entry t.maps.rows map) c.tables.ensures)
    ∙ sym c.get.ensures.found ∙ ap option_copied c.in-Some.is in
    listed_entry _ map c.in-Some.row.now found

pub derived_text-requires-clause-values : goal.derived_text-requires-clause-values
derived_text-requires-clause-values g c = sym c.has_values.ensures ∙ c.if-has_values.false

pub returns : goal.returns
returns g c =
    let w = (watch-value g.row.B g.B.Observer g.B.Observer-dict g.B.Destruct-dict).it in
    let map = c.args.map.now in
    let found = sym (ap (λ (t : ItemTables). entry t.maps.rows map) c.tables.ensures)
    ∙ sym c.get.ensures.found ∙ ap option_copied c.in-Some.is in
    IfOk-weaker c.derived_text.result _ _
    (λ text told. reply_told w c.args.self.now c.args.sort map c.args.id
    c.requires.in_step.seats (sym c.is_label.ensures ∙ c.if-is_label.false) c.in-Some.row.now found
    text told)
    c.derived_text.ensures
