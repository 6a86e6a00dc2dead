use Rattle.std.proofs.Common.{◌≡◌, length, map, sym, ap, subst, Some, ◌∙◌, arith}
use Rattle.std.specs.Prelude.{find, option_map, slice_get}
use Rattle.std.proofs.lemmas.List.{take_all}
use Rattle.plain_world.specs.Tables.{Named, under}
use Rattle.desk_world.specs.declared.tables.ItemTables.{ItemTables}
use Rattle.desk_world.specs.declared.tables.MapRow.{MapRow}
use Rattle.desk_world.specs.Plain.{tables_of}
use Rattle.desk_world.specs.Indexes.{is_index_kind}
use Rattle.desk_world.proofs.TableRows.{found_at, none_more, row_at, some_row}
use Rattle.desk_world.proofs.readers.World+Seat+B.index_of.Goals as goal

pub returns-then-is_index_of : goal.returns-then-is_index_of
returns-then-is_index_of g c =
    let rows = (tables_of c.args.self.now c.args.sort).maps.rows in
    let place = c.loop-place.place in
    let named = subst (λ (t : ItemTables).
    slice_get (map (λ (e : Named MapRow). e.name) t.maps.rows) place ≡ Some c.name.result.now)
    c.tables.ensures c.name.ensures in
    let valued = subst (λ (t : ItemTables).
    slice_get (map (λ (e : Named MapRow). e.value) t.maps.rows) place ≡ Some c.value.result.now)
    c.tables.ensures c.value.ensures in
    let at = row_at rows place c.name.result.now c.value.result.now named valued in
    sym (ap (option_map (λ (e : Named MapRow). e.name))
    (found_at (λ (e : Named MapRow). is_index_kind c.args.map.now e.value.kind) rows place
    (under c.name.result.now c.value.result.now) at
    (sym c.is_index_of.ensures ∙ c.if-is_index_of.true) c.loop-place.invariant))

pub loop-place-preserved : goal.loop-place-preserved
loop-place-preserved g c =
    let rows = (tables_of c.args.self.now c.args.sort).maps.rows in
    let place = c.loop-place.place in
    let valued = subst (λ (t : ItemTables).
    slice_get (map (λ (e : Named MapRow). e.value) t.maps.rows) place ≡ Some c.value.result.now)
    c.tables.ensures c.value.ensures in
    let row = some_row rows place c.value.result.now valued in
    none_more (λ (e : Named MapRow). is_index_kind c.args.map.now e.value.kind) rows place
    row.0 row.1
    (ap (λ (r : MapRow). is_index_kind c.args.map.now r.kind) row.2
    ∙ sym c.is_index_of.ensures ∙ c.if-is_index_of.false)
    c.loop-place.invariant

pub returns : goal.returns
returns g c =
    let rows = (tables_of c.args.self.now c.args.sort).maps.rows in
    let size = subst (λ (t : ItemTables). c.len-place-end.result ≡ length t.maps.rows)
    c.tables.ensures c.len-place-end.ensures in
    let l = c.loop-place-test.false in
    sym (ap (option_map (λ (e : Named MapRow). e.name))
    (ap (find (λ (e : Named MapRow). is_index_kind c.args.map.now e.value.kind))
    (sym (take_all c.loop-place.place rows (omega (arith, size, l))))
    ∙ c.loop-place.invariant))
