use Rattle.std.proofs.Common.{sym, ap, ◌∙◌, arith}
use Rattle.std.specs.Prelude.{find, option_map}
use Rattle.std.proofs.lemmas.List.{take_all}
use Rattle.plain_world.specs.Tables.{Named, under}
use Rattle.plain_world.specs.Views.{reads}
use Rattle.desk_world.specs.declared.tables.ViewRow.{ViewRow}
use Rattle.desk_world.proofs.TableRows.{found_at, none_more, row_at, some_row}
use Rattle.desk_world.proofs.readers.World+Seat+B.reading_view.Goals as goal

pub returns-then-reads : goal.returns-then-reads
returns-then-reads g c =
    let rows = c.args.self.now.views.rows in
    let place = c.loop-place.place in
    let at = row_at rows place c.name.result.now c.value.result.now c.name.ensures
    c.value.ensures in
    sym (ap (option_map (λ (e : Named ViewRow). e.name))
    (found_at (λ (e : Named ViewRow). reads c.args.sort c.args.map.now e.value.layer) rows place
    (under c.name.result.now c.value.result.now) at
    (sym c.reads.ensures ∙ c.if-reads.true) c.loop-place.invariant))

pub loop-place-preserved : goal.loop-place-preserved
loop-place-preserved g c =
    let rows = c.args.self.now.views.rows in
    let place = c.loop-place.place in
    let row = some_row rows place c.value.result.now c.value.ensures in
    none_more (λ (e : Named ViewRow). reads c.args.sort c.args.map.now e.value.layer) rows place
    row.0 row.1
    (ap (λ (r : ViewRow). reads c.args.sort c.args.map.now r.layer) row.2
    ∙ sym c.reads.ensures ∙ c.if-reads.false)
    c.loop-place.invariant

pub returns : goal.returns
returns g c =
    let rows = c.args.self.now.views.rows in
    let size = c.len-place-end.ensures in
    let l = c.loop-place-test.false in
    sym (ap (option_map (λ (e : Named ViewRow). e.name))
    (ap (find (λ (e : Named ViewRow). reads c.args.sort c.args.map.now e.value.layer))
    (sym (take_all c.loop-place.place rows (omega (arith, size, l))))
    ∙ c.loop-place.invariant))
