use Rattle.std.proofs.Common.{ap, sym, ◌∙◌, map, length, subst, ◌<◌}
use Rattle.std.specs.Prelude.{slice_get}
use Rattle.std.specs.Option.{option_copied}
use Rattle.notify_chain.specs.Seats.{seat_seen}
use Rattle.plain_world.specs.Tables.{Named}
use Rattle.script_words.specs.declared.commands.MapType.TheVariants as types
use Rattle.desk_seats.specs.contracts.seat.SeatObserver.TheImpl.{watch-value}
use Rattle.desk_world.specs.declared.tables.ItemTables.{ItemTables}
use Rattle.desk_world.specs.declared.tables.MapRow.{MapRow}
use Rattle.desk_world.proofs.NumberedRows as numbered
use Rattle.desk_world.proofs.map_values.World+Seat+B.bool_by.Goals as goal

pub value-requires : goal.value-requires
value-requires g c =
    let w = (watch-value g.row.B g.B.Observer g.B.Observer-dict g.B.Destruct-dict).it in
    subst (λ (t : ItemTables). c.args.map < length t.maps.rows) (sym c.tables.ensures)
    (numbered.place w c.args.self.now c.args.sort c.args.map types.Bools c.requires.map
    c.requires.in_step)

pub unreachable-requires : goal.unreachable-requires
unreachable-requires g c =
    let w = (watch-value g.row.B g.B.Observer g.B.Observer-dict g.B.Destruct-dict).it in
    let row = c.value.result.now in
    let at = sym (ap (λ (t : ItemTables). slice_get (map (λ (e : Named MapRow). e.value)
    t.maps.rows) c.args.map) c.tables.ensures) ∙ c.value.ensures in
    numbered.none_seated w c.args.self.now c.args.sort c.args.map row at types.Bools c.requires.map
    c.requires.in_step
    (sym (ap (λ r. seat_seen w row.key.0 (option_copied r)) c.in-None.is) ∙ c.seat.ensures)

pub bool-requires-clause-form : goal.bool-requires-clause-form
bool-requires-clause-form g c =
    let w = (watch-value g.row.B g.B.Observer g.B.Observer-dict g.B.Destruct-dict).it in
    let row = c.value.result.now in
    let at = sym (ap (λ (t : ItemTables). slice_get (map (λ (e : Named MapRow). e.value)
    t.maps.rows) c.args.map) c.tables.ensures) ∙ c.value.ensures in
    (numbered.bool_known w c.args.self.now c.args.sort c.args.map row at c.in-Some.seat.now
    (sym (ap (λ r. seat_seen w row.key.0 (option_copied r)) c.in-Some.is) ∙ c.seat.ensures)
    c.args.id c.requires.live c.requires.map c.requires.in_step).form

pub bool-requires-clause-live : goal.bool-requires-clause-live
bool-requires-clause-live g c =
    let w = (watch-value g.row.B g.B.Observer g.B.Observer-dict g.B.Destruct-dict).it in
    let row = c.value.result.now in
    let at = sym (ap (λ (t : ItemTables). slice_get (map (λ (e : Named MapRow). e.value)
    t.maps.rows) c.args.map) c.tables.ensures) ∙ c.value.ensures in
    (numbered.bool_known w c.args.self.now c.args.sort c.args.map row at c.in-Some.seat.now
    (sym (ap (λ r. seat_seen w row.key.0 (option_copied r)) c.in-Some.is) ∙ c.seat.ensures)
    c.args.id c.requires.live c.requires.map c.requires.in_step).live

pub returns : goal.returns
returns g c =
    let w = (watch-value g.row.B g.B.Observer g.B.Observer-dict g.B.Destruct-dict).it in
    let row = c.value.result.now in
    let at = sym (ap (λ (t : ItemTables). slice_get (map (λ (e : Named MapRow). e.value)
    t.maps.rows) c.args.map) c.tables.ensures) ∙ c.value.ensures in
    sym ((numbered.bool_known w c.args.self.now c.args.sort c.args.map row at c.in-Some.seat.now
    (sym (ap (λ r. seat_seen w row.key.0 (option_copied r)) c.in-Some.is) ∙ c.seat.ensures)
    c.args.id c.requires.live c.requires.map c.requires.in_step).held c.bool.result c.bool.ensures)
