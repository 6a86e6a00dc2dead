use Rattle.std.proofs.Common.{ap, sym, ◌∙◌, map, length, subst, ◌<◌, FitsSigned, w64, rules}
use Rattle.std.specs.Prelude.{slice_get}
use Rattle.std.specs.Option.{option_copied}
use Rattle.std.proofs.lemmas.Int.{to_z-of_z}
use Rattle.notify_chain.specs.Seats.{seat_seen}
use Rattle.plain_world.specs.Tables.{Named}
use Rattle.script_words.specs.declared.commands.MapType.TheVariants as types
use Rattle.desk_seats.specs.contracts.seat.SeatObserver.TheImpl.{watch-value}
use Rattle.desk_world.specs.declared.tables.ItemTables.{ItemTables}
use Rattle.desk_world.specs.declared.tables.MapRow.{MapRow}
use Rattle.desk_world.proofs.NumberedRows as numbered
use Rattle.desk_world.proofs.map_values.World+Seat+B.int_by.Goals as goal

pub value-requires : goal.value-requires
value-requires g c =
    let w = (watch-value g.row.B g.B.Observer g.B.Observer-dict g.B.Destruct-dict).it in
    subst (λ (t : ItemTables). c.args.map < length t.maps.rows) (sym c.tables.ensures)
    (numbered.place w c.args.self.now c.args.sort c.args.map types.Ints c.requires.map
    c.requires.in_step)

pub unreachable-requires : goal.unreachable-requires
unreachable-requires g c =
    let w = (watch-value g.row.B g.B.Observer g.B.Observer-dict g.B.Destruct-dict).it in
    let row = c.value.result.now in
    let at = sym (ap (λ (t : ItemTables). slice_get (map (λ (e : Named MapRow). e.value)
    t.maps.rows) c.args.map) c.tables.ensures) ∙ c.value.ensures in
    numbered.none_seated w c.args.self.now c.args.sort c.args.map row at types.Ints c.requires.map
    c.requires.in_step
    (sym (ap (λ r. seat_seen w row.key.0 (option_copied r)) c.in-None.is) ∙ c.seat.ensures)

pub int-requires-clause-form : goal.int-requires-clause-form
int-requires-clause-form g c =
    let w = (watch-value g.row.B g.B.Observer g.B.Observer-dict g.B.Destruct-dict).it in
    let row = c.value.result.now in
    let at = sym (ap (λ (t : ItemTables). slice_get (map (λ (e : Named MapRow). e.value)
    t.maps.rows) c.args.map) c.tables.ensures) ∙ c.value.ensures in
    (numbered.int_known w c.args.self.now c.args.sort c.args.map row at c.in-Some.seat.now
    (sym (ap (λ r. seat_seen w row.key.0 (option_copied r)) c.in-Some.is) ∙ c.seat.ensures)
    c.args.id c.requires.live c.requires.map c.requires.in_step).form

pub int-requires-clause-live : goal.int-requires-clause-live
int-requires-clause-live g c =
    let w = (watch-value g.row.B g.B.Observer g.B.Observer-dict g.B.Destruct-dict).it in
    let row = c.value.result.now in
    let at = sym (ap (λ (t : ItemTables). slice_get (map (λ (e : Named MapRow). e.value)
    t.maps.rows) c.args.map) c.tables.ensures) ∙ c.value.ensures in
    (numbered.int_known w c.args.self.now c.args.sort c.args.map row at c.in-Some.seat.now
    (sym (ap (λ r. seat_seen w row.key.0 (option_copied r)) c.in-Some.is) ∙ c.seat.ensures)
    c.args.id c.requires.live c.requires.map c.requires.in_step).live

pub returns : goal.returns
returns g c =
    let w = (watch-value g.row.B g.B.Observer g.B.Observer-dict g.B.Destruct-dict).it in
    let row = c.value.result.now in
    let at = sym (ap (λ (t : ItemTables). slice_get (map (λ (e : Named MapRow). e.value)
    t.maps.rows) c.args.map) c.tables.ensures) ∙ c.value.ensures in
    let fits : FitsSigned w64 c.int.result = search rules in
    to_z-of_z w64 c.int.result fits
    ∙ sym ((numbered.int_known w c.args.self.now c.args.sort c.args.map row at c.in-Some.seat.now
    (sym (ap (λ r. seat_seen w row.key.0 (option_copied r)) c.in-Some.is) ∙ c.seat.ensures)
    c.args.id c.requires.live c.requires.map c.requires.in_step).held c.int.result c.int.ensures)
