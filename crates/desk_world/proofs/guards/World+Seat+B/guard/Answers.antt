use Rattle.std.proofs.Common.{sym, ap, subst, ◌∙◌}
use Rattle.observe_core.specs.Conditions.{IsArmable}
use Rattle.plain_world.specs.Tables.{has_entry}
use Rattle.plain_world.specs.Valid.{IsWorld}
use Rattle.desk_seats.specs.contracts.seat.SeatObserver.TheImpl.{watch-value}
use Rattle.desk_world.specs.declared.world.World.{World}
use Rattle.desk_world.specs.Boxes.{HasBoxAt, WentBack}
use Rattle.desk_world.proofs.GuardCommands.{new_row, vetoed_step, seated_step, seated_in_step}
use Rattle.desk_world.proofs.GuardReady.{found_armable, roomy_in_step, roomy_plain}
use Rattle.desk_world.proofs.guards.World+Seat+B.guard.Goals as goal

pub seat_box-requires-clause-armable : goal.seat_box-requires-clause-armable
seat_box-requires-clause-armable g c =
    let w = (watch-value g.row.B g.B.Observer g.B.Observer-dict g.B.Destruct-dict).it in
    let self = c.args.self.now in
    let place = c.in_ok-place.place in
    subst (λ n. HasBoxAt place (λ o. IsArmable n (w o).seen) self.pool.items)
    (sym c.unwrap_or.ensures)
    (found_armable w self c.args.kind place c.args.sort c.args.limit c.requires.in_step.seats
    c.requires.valid c.in_ok-place.ensures.first)

pub put-requires-clause-new : goal.put-requires-clause-new
put-requires-clause-new g c =
    let w = (watch-value g.row.B g.B.Observer g.B.Observer-dict g.B.Destruct-dict).it in
    let self = c.args.self.now in
    let told = c.in_ok-name.name in
    ap (λ (x : World _). has_entry x.guards.rows told) c.in-Ok.ensures.seated.others
    ∙ ap (λ rows. has_entry rows told) c.reserve.ensures.rows
    ∙ new_row w self c.requires.in_step c.args.name.now c.in_ok-ask_new_guard.ensures told
    (c.in_ok-name.ensures ∙ c.as_bytes.ensures)

pub returns-in-Ok-clause-step : goal.returns-in-Ok-clause-step
returns-in-Ok-clause-step g c =
    let w = (watch-value g.row.B g.B.Observer g.B.Observer-dict g.B.Destruct-dict).it in
    seated_step w c.args.self.now c.requires.in_step c.args.name.now
    c.in_ok-ask_new_guard.ensures c.args.sort c.args.kind c.args.limit c.unwrap_or.result
    c.in_ok-place.place c.in_ok-place.ensures.meets c.in_ok-place.ensures.first
    c.reserve.new.self c.reserve.ensures.rows c.in_ok-name.name
    (c.in_ok-name.ensures ∙ c.as_bytes.ensures) c.unwrap_or.ensures c.seat_box.new.self
    c.in-Ok.key c.in-Ok.ensures.seated c.put.new.self c.put.ensures.rows

pub returns-in-Ok-clause-in_step : goal.returns-in-Ok-clause-in_step
returns-in-Ok-clause-in_step g c =
    let w = (watch-value g.row.B g.B.Observer g.B.Observer-dict g.B.Destruct-dict).it in
    seated_in_step w c.args.self.now c.requires.in_step c.args.name.now
    c.in_ok-ask_new_guard.ensures c.args.sort c.args.kind c.args.limit c.unwrap_or.result
    c.in_ok-place.place c.in_ok-place.ensures.meets c.in_ok-place.ensures.first
    c.reserve.new.self c.reserve.ensures.rows c.in_ok-name.name
    (c.in_ok-name.ensures ∙ c.as_bytes.ensures) c.unwrap_or.ensures c.seat_box.new.self
    c.in-Ok.key c.in-Ok.ensures.seated c.put.new.self c.put.ensures.rows c.requires.valid
    c.requires.stamps

pub returns-in-Err-Refused-clause-step : goal.returns-in-Err-Refused-clause-step
returns-in-Err-Refused-clause-step g c =
    let w = (watch-value g.row.B g.B.Observer g.B.Observer-dict g.B.Destruct-dict).it in
    let ready = record c.args.self.now { guards = c.reserve.new.self } in
    vetoed_step w c.args.self.now c.requires.in_step c.args.name.now
    c.in_ok-ask_new_guard.ensures c.args.sort c.args.kind c.args.limit c.unwrap_or.result
    c.in_ok-place.place c.in_ok-place.ensures.meets c.in_ok-place.ensures.first
    c.reserve.new.self c.reserve.ensures.rows c.in_ok-name.name
    (c.in_ok-name.ensures ∙ c.as_bytes.ensures) c.unwrap_or.ensures c.seat_box.new.self
    (subst (λ veto. WentBack w c.in_ok-place.place c.args.sort c.unwrap_or.result veto ready
    c.seat_box.new.self) c.in-Err-Refused.field-0-is c.in-Err-Refused.ensures.refused)

pub returns-in_err-reserve-clause-in_step : goal.returns-in_err-reserve-clause-in_step
returns-in_err-reserve-clause-in_step g c =
    let w = (watch-value g.row.B g.B.Observer g.B.Observer-dict g.B.Destruct-dict).it in
    let self = c.args.self.now in
    let roomy = c.reserve.new.self in
    let in_step = c.requires.in_step in
    record {
      seats = roomy_in_step w self roomy c.reserve.ensures.rows in_step.seats;
      valid = subst IsWorld (sym (roomy_plain w self roomy c.reserve.ensures.rows)) in_step.valid;
    }
