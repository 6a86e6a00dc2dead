use Rattle.std.proofs.Common.{ap, sym, ◌∙◌, Some}
use Rattle.std.specs.Fmt.{decimal}
use Rattle.std.specs.Option.{option_copied}
use Rattle.std.proofs.lemmas.Bool.{true≢false}
use Rattle.std.proofs.lemmas.Result.{IfOk-weaker}
use Rattle.notify_chain.specs.Seats.{seat_seen}
use Rattle.plain_world.specs.Tables.{entry}
use Rattle.desk_seats.specs.contracts.seat.SeatObserver.TheImpl.{watch-value}
use Rattle.desk_world.specs.declared.tables.ItemTables.{ItemTables}
use Rattle.desk_world.specs.InStep.{has_values}
use Rattle.desk_world.proofs.DerivedTold as told
use Rattle.desk_world.proofs.TableRows.{listed_entry}
use Rattle.desk_world.proofs.maps.World+Seat+B.derived_text.Goals as goal

pub degree-requires : goal.degree-requires
degree-requires g c =
    let w = (watch-value g.row.B g.B.Observer g.B.Observer-dict g.B.Destruct-dict).it in
    let row = c.args.row.now in
    told.degree_form w c.args.self.now c.requires.in_step c.args.sort row c.requires.row
    c.in-Degrees.field-0 c.in-Degrees.is c.in-Some.seat.now
    (sym (ap (λ r. seat_seen w row.key.0 (option_copied r)) c.in-Some.is) ∙ c.seat.ensures)

pub returns-in-Some : goal.returns-in-Some
returns-in-Some g c =
    let w = (watch-value g.row.B g.B.Observer g.B.Observer-dict g.B.Destruct-dict).it in
    let row = c.args.row.now in
    let at = told.degree_at w c.args.self.now c.requires.in_step c.args.sort row c.requires.row
    c.in-Degrees.field-0 c.in-Degrees.is c.in-Some.seat.now
    (sym (ap (λ r. seat_seen w row.key.0 (option_copied r)) c.in-Some.is) ∙ c.seat.ensures)
    c.args.id in
    IfOk-weaker c.count_text.result _ _
    (λ text is. at ∙ ap Some (sym (is ∙ ap decimal c.degree.ensures))) c.count_text.ensures

pub unreachable-requires : goal.unreachable-requires
unreachable-requires g c =
    let w = (watch-value g.row.B g.B.Observer g.B.Observer-dict g.B.Destruct-dict).it in
    let row = c.args.row.now in
    told.degree_seated w c.args.self.now c.requires.in_step c.args.sort row c.requires.row
    c.in-Degrees.field-0 c.in-Degrees.is
    (sym (ap (λ r. seat_seen w row.key.0 (option_copied r)) c.in-None.is) ∙ c.seat.ensures)

pub row_text-requires-clause-row : goal.row_text-requires-clause-row
row_text-requires-clause-row g c =
    let map = c.in-Trues.map in
    let found = sym (ap (λ (t : ItemTables). entry t.maps.rows map) c.tables.ensures)
    ∙ sym c.get.ensures.found ∙ ap option_copied c.in-Some-get.is in
    listed_entry _ map c.in-Some-get.source.now found

pub row_text-requires-clause-values : goal.row_text-requires-clause-values
row_text-requires-clause-values g c =
    let w = (watch-value g.row.B g.B.Observer g.B.Observer-dict g.B.Destruct-dict).it in
    let map = c.in-Trues.map in
    let found = sym (ap (λ (t : ItemTables). entry t.maps.rows map) c.tables.ensures)
    ∙ sym c.get.ensures.found ∙ ap option_copied c.in-Some-get.is in
    told.source_values w c.args.self.now c.requires.in_step c.args.sort c.args.row.now
    c.requires.row map c.in-Trues.is c.in-Some-get.source.now found

pub returns-in-Some-get : goal.returns-in-Some-get
returns-in-Some-get g c =
    let w = (watch-value g.row.B g.B.Observer g.B.Observer-dict g.B.Destruct-dict).it in
    let map = c.in-Trues.map in
    let found = sym (ap (λ (t : ItemTables). entry t.maps.rows map) c.tables.ensures)
    ∙ sym c.get.ensures.found ∙ ap option_copied c.in-Some-get.is in
    IfOk-weaker c.row_text.result _ _
    (told.source_at w c.args.self.now c.requires.in_step c.args.sort c.args.row.now
    c.requires.row map c.in-Trues.is c.in-Some-get.source.now found c.args.id)
    c.row_text.ensures

pub unreachable-requires-in-None-get : goal.unreachable-requires-in-None-get
unreachable-requires-in-None-get g c =
    let w = (watch-value g.row.B g.B.Observer g.B.Observer-dict g.B.Destruct-dict).it in
    let map = c.in-Trues.map in
    let found = sym (ap (λ (t : ItemTables). entry t.maps.rows map) c.tables.ensures)
    ∙ sym c.get.ensures.found ∙ ap option_copied c.in-None-get.is in
    told.source_there w c.args.self.now c.requires.in_step c.args.sort c.args.row.now
    c.requires.row map c.in-Trues.is found

pub unreachable-requires-in-Ints : goal.unreachable-requires-in-Ints
unreachable-requires-in-Ints g c =
    true≢false (sym (ap has_values c.in-Ints.is) ∙ c.requires.values)

pub unreachable-requires-in-Bools : goal.unreachable-requires-in-Bools
unreachable-requires-in-Bools g c =
    true≢false (sym (ap has_values c.in-Bools.is) ∙ c.requires.values)

pub unreachable-requires-in-Texts : goal.unreachable-requires-in-Texts
unreachable-requires-in-Texts g c =
    true≢false (sym (ap has_values c.in-Texts.is) ∙ c.requires.values)
