use Rattle.std.proofs.Common.{sym, ap, ◌∙◌}
use Rattle.std.specs.Prelude.{option_map}
use Rattle.plain_world.specs.Tables.{under}
use Rattle.desk_world.specs.Vetoes.{is_row_of, is_seat_of}
use Rattle.desk_world.proofs.TableRows.{found_at, none_more, row_at, some_row}
use Rattle.desk_world.proofs.vetoes.World+Seat+B.guard_name.Goals as goal

pub returns-then-is_seat_of : goal.returns-then-is_seat_of
returns-then-is_seat_of g c =
    let rows = c.args.self.now.guards.rows in
    let place = c.loop-place.place in
    let at = row_at rows place c.name.result.now c.value.result.now c.name.ensures
    c.value.ensures in
    ap (option_map (λ e. e.name))
    (found_at (is_row_of c.args.sort c.args.key.0) rows place
    (under c.name.result.now c.value.result.now) at
    (sym c.is_seat_of.ensures ∙ c.if-is_seat_of.true) c.loop-place.invariant)

pub loop-place-preserved : goal.loop-place-preserved
loop-place-preserved g c =
    let rows = c.args.self.now.guards.rows in
    let place = c.loop-place.place in
    let row = some_row rows place c.value.result.now c.value.ensures in
    none_more (is_row_of c.args.sort c.args.key.0) rows place row.0 row.1
    (ap (is_seat_of c.args.sort c.args.key.0) row.2
    ∙ sym c.is_seat_of.ensures
    ∙ c.if-is_seat_of.false)
    c.loop-place.invariant
