use Rattle.std.proofs.Common.{sym, ap, ◌∙◌, arith}
use Rattle.std.specs.Prelude.{find, option_map}
use Rattle.std.specs.Str.{bytes_eq}
use Rattle.std.proofs.lemmas.List.{take_all}
use Rattle.plain_world.specs.Tables.{Named, under}
use Rattle.desk_world.specs.declared.tables.ViewRow.{ViewRow}
use Rattle.desk_world.proofs.TableRows.{found_at, none_more, row_at, some_row}
use Rattle.desk_world.proofs.view_demands.World+Seat+B.standing_on.Goals as goal

pub returns-then-eq : goal.returns-then-eq
returns-then-eq g c =
    let rows = c.args.self.now.views.rows in
    let place = c.loop-place.place in
    let at = row_at rows place c.name.result.now c.value.result.now c.name.ensures
    c.value.ensures in
    sym (ap (option_map (λ (e : Named ViewRow). e.name))
    (found_at (λ (e : Named ViewRow). bytes_eq e.value.below c.args.view.now) rows place
    (under c.name.result.now c.value.result.now) at
    (sym c.eq.ensures ∙ c.if-eq.true) c.loop-place.invariant))

pub loop-place-preserved : goal.loop-place-preserved
loop-place-preserved g c =
    let rows = c.args.self.now.views.rows in
    let place = c.loop-place.place in
    let row = some_row rows place c.value.result.now c.value.ensures in
    none_more (λ (e : Named ViewRow). bytes_eq e.value.below c.args.view.now) rows place
    row.0 row.1
    (ap (λ (r : ViewRow). bytes_eq r.below c.args.view.now) row.2
    ∙ sym c.eq.ensures ∙ c.if-eq.false)
    c.loop-place.invariant

pub returns : goal.returns
returns g c =
    let rows = c.args.self.now.views.rows in
    let size = c.len-place-end.ensures in
    let l = c.loop-place-test.false in
    sym (ap (option_map (λ (e : Named ViewRow). e.name))
    (ap (find (λ (e : Named ViewRow). bytes_eq e.value.below c.args.view.now))
    (sym (take_all c.loop-place.place rows (omega (arith, size, l))))
    ∙ c.loop-place.invariant))
