use Rattle.std.proofs.Common.{ap, sym, subst, ◌∙◌, is_some}
use Rattle.std.specs.Prelude.{option_and_then}
use Rattle.std.specs.Option.{option_copied}
use Rattle.report_text.specs.declared.faults.Fault.TheVariants as faults
use Rattle.plain_world.specs.Tables.{entry}
use Rattle.plain_world.specs.Refusals.{unless}
use Rattle.desk_seats.specs.contracts.seat.SeatObserver.TheImpl.{watch-value}
use Rattle.desk_world.specs.declared.tables.ItemTables.{ItemTables}
use Rattle.desk_world.specs.declared.tables.MapRow.{MapRow}
use Rattle.desk_world.specs.Faults.{Is}
use Rattle.desk_world.proofs.MapsFound.{map_type, type_by}
use Rattle.desk_world.proofs.maps.World+Seat+B.value_type.Goals as goal

pub returns-in-None-clause-meets : goal.returns-in-None-clause-meets
returns-in-None-clause-meets g c =
    let w = (watch-value g.row.B g.B.Observer g.B.Observer-dict g.B.Destruct-dict).it in
    let name = c.args.name.now in
    let found = sym (ap (λ (t : ItemTables). entry t.maps.rows name) c.tables.ensures)
    ∙ sym c.get.ensures.found ∙ ap option_copied c.in-None.is in
    subst (λ o. Is (unless (is_some o) (faults.WrongType name)) c.wrong_type.result)
    (sym (map_type w c.args.self.now c.requires.seats c.args.sort name
    ∙ ap (option_and_then (λ (row : MapRow). type_by row.kind)) found))
    c.wrong_type.ensures

pub returns-in-Ints-clause-meets : goal.returns-in-Ints-clause-meets
returns-in-Ints-clause-meets g c =
    let w = (watch-value g.row.B g.B.Observer g.B.Observer-dict g.B.Destruct-dict).it in
    let name = c.args.name.now in
    let found = sym (ap (λ (t : ItemTables). entry t.maps.rows name) c.tables.ensures)
    ∙ sym c.get.ensures.found ∙ ap option_copied c.in-Some.is in
    ap (λ o. unless (is_some o) (faults.WrongType name))
    (map_type w c.args.self.now c.requires.seats c.args.sort name
    ∙ ap (option_and_then (λ (row : MapRow). type_by row.kind)) found ∙ ap type_by c.in-Ints.is)

pub returns-in-Ints-clause-found : goal.returns-in-Ints-clause-found
returns-in-Ints-clause-found g c =
    let w = (watch-value g.row.B g.B.Observer g.B.Observer-dict g.B.Destruct-dict).it in
    let name = c.args.name.now in
    let found = sym (ap (λ (t : ItemTables). entry t.maps.rows name) c.tables.ensures)
    ∙ sym c.get.ensures.found ∙ ap option_copied c.in-Some.is in
    map_type w c.args.self.now c.requires.seats c.args.sort name
    ∙ ap (option_and_then (λ (row : MapRow). type_by row.kind)) found ∙ ap type_by c.in-Ints.is

pub returns-in-Bools-clause-meets : goal.returns-in-Bools-clause-meets
returns-in-Bools-clause-meets g c =
    let w = (watch-value g.row.B g.B.Observer g.B.Observer-dict g.B.Destruct-dict).it in
    let name = c.args.name.now in
    let found = sym (ap (λ (t : ItemTables). entry t.maps.rows name) c.tables.ensures)
    ∙ sym c.get.ensures.found ∙ ap option_copied c.in-Some.is in
    ap (λ o. unless (is_some o) (faults.WrongType name))
    (map_type w c.args.self.now c.requires.seats c.args.sort name
    ∙ ap (option_and_then (λ (row : MapRow). type_by row.kind)) found ∙ ap type_by c.in-Bools.is)

pub returns-in-Bools-clause-found : goal.returns-in-Bools-clause-found
returns-in-Bools-clause-found g c =
    let w = (watch-value g.row.B g.B.Observer g.B.Observer-dict g.B.Destruct-dict).it in
    let name = c.args.name.now in
    let found = sym (ap (λ (t : ItemTables). entry t.maps.rows name) c.tables.ensures)
    ∙ sym c.get.ensures.found ∙ ap option_copied c.in-Some.is in
    map_type w c.args.self.now c.requires.seats c.args.sort name
    ∙ ap (option_and_then (λ (row : MapRow). type_by row.kind)) found ∙ ap type_by c.in-Bools.is

pub returns-in-Texts-clause-meets : goal.returns-in-Texts-clause-meets
returns-in-Texts-clause-meets g c =
    let w = (watch-value g.row.B g.B.Observer g.B.Observer-dict g.B.Destruct-dict).it in
    let name = c.args.name.now in
    let found = sym (ap (λ (t : ItemTables). entry t.maps.rows name) c.tables.ensures)
    ∙ sym c.get.ensures.found ∙ ap option_copied c.in-Some.is in
    ap (λ o. unless (is_some o) (faults.WrongType name))
    (map_type w c.args.self.now c.requires.seats c.args.sort name
    ∙ ap (option_and_then (λ (row : MapRow). type_by row.kind)) found ∙ ap type_by c.in-Texts.is)

pub returns-in-Texts-clause-found : goal.returns-in-Texts-clause-found
returns-in-Texts-clause-found g c =
    let w = (watch-value g.row.B g.B.Observer g.B.Observer-dict g.B.Destruct-dict).it in
    let name = c.args.name.now in
    let found = sym (ap (λ (t : ItemTables). entry t.maps.rows name) c.tables.ensures)
    ∙ sym c.get.ensures.found ∙ ap option_copied c.in-Some.is in
    map_type w c.args.self.now c.requires.seats c.args.sort name
    ∙ ap (option_and_then (λ (row : MapRow). type_by row.kind)) found ∙ ap type_by c.in-Texts.is

pub returns-in-Degrees-clause-meets : goal.returns-in-Degrees-clause-meets
returns-in-Degrees-clause-meets g c =
    let w = (watch-value g.row.B g.B.Observer g.B.Observer-dict g.B.Destruct-dict).it in
    let name = c.args.name.now in
    let found = sym (ap (λ (t : ItemTables). entry t.maps.rows name) c.tables.ensures)
    ∙ sym c.get.ensures.found ∙ ap option_copied c.in-Some.is in
    subst (λ o. Is (unless (is_some o) (faults.WrongType name)) c.wrong_type-in-Degrees.result)
    (sym (map_type w c.args.self.now c.requires.seats c.args.sort name
    ∙ ap (option_and_then (λ (row : MapRow). type_by row.kind)) found ∙ ap type_by c.in-Degrees.is))
    c.wrong_type-in-Degrees.ensures

pub returns-in-Trues-clause-meets : goal.returns-in-Trues-clause-meets
returns-in-Trues-clause-meets g c =
    let w = (watch-value g.row.B g.B.Observer g.B.Observer-dict g.B.Destruct-dict).it in
    let name = c.args.name.now in
    let found = sym (ap (λ (t : ItemTables). entry t.maps.rows name) c.tables.ensures)
    ∙ sym c.get.ensures.found ∙ ap option_copied c.in-Some.is in
    subst (λ o. Is (unless (is_some o) (faults.WrongType name)) c.wrong_type-in-Trues.result)
    (sym (map_type w c.args.self.now c.requires.seats c.args.sort name
    ∙ ap (option_and_then (λ (row : MapRow). type_by row.kind)) found ∙ ap type_by c.in-Trues.is))
    c.wrong_type-in-Trues.ensures
