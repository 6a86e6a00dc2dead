use Rattle.std.proofs.Common.{sym, ap, subst, ◌∙◌, refl, is_some}
use Rattle.report_text.specs.declared.faults.Fault.TheVariants as faults
use Rattle.plain_world.specs.Refusals.{unless}
use Rattle.desk_seats.specs.contracts.seat.SeatObserver.TheImpl.{watch-value}
use Rattle.desk_world.specs.Faults.{Is}
use Rattle.desk_world.specs.Plain.{plain_of}
use Rattle.desk_world.proofs.GuardReturns.{no_guard, guard_sits, unguard_answered, unguard_valid}
use Rattle.desk_world.proofs.GuardReturns.{left_in_step, left_plain}
use Rattle.desk_world.proofs.GuardsFound.{guard_there, guard_found}
use Rattle.desk_world.proofs.guards.World+Seat+B.unguard.Goals as goal

pub returns-then-not-has-clause-step : goal.returns-then-not-has-clause-step
returns-then-not-has-clause-step g c =
    let w = (watch-value g.row.B g.B.Observer g.B.Observer-dict g.B.Destruct-dict).it in
    let self = c.args.self.now in
    let name = c.args.name.now in
    no_guard (plain_of w self) name _
    (subst (λ b. Is (unless b (faults.Unknown name)) c.unknown.result)
    (sym (guard_there w self c.requires.in_step.seats name ∙ sym c.has.ensures ∙ c.if-not-has.true))
    c.unknown.ensures)

pub unseat_box-requires-clause-there : goal.unseat_box-requires-clause-there
unseat_box-requires-clause-there g c =
    let w = (watch-value g.row.B g.B.Observer g.B.Observer-dict g.B.Destruct-dict).it in
    guard_sits w c.args.self.now c.requires.in_step.seats c.args.name.now c.in-Some.row
    (sym c.remove.ensures.value ∙ c.in-Some.is)

pub returns-clause-step : goal.returns-clause-step
returns-clause-step g c =
    let w = (watch-value g.row.B g.B.Observer g.B.Observer-dict g.B.Destruct-dict).it in
    let self = c.args.self.now in
    let name = c.args.name.now in
    let row = c.in-Some.row in
    let found = sym c.remove.ensures.value ∙ c.in-Some.is in
    let own = (guard_found w self c.requires.in_step.seats name row found).own in
    let roomy = record self { guards = c.remove.new.self; pool = c.reserve.new.self } in
    unguard_answered (plain_of w self) name (plain_of w c.unseat_box.new.self)
    (ap (λ o. unless (is_some o) (faults.Unknown name)) own)
    (left_plain w self c.requires.in_step.seats name row found c.remove.new.self
    c.remove.ensures.rows c.remove.ensures.differ roomy c.unseat_box.new.self refl
    c.reserve.ensures.items c.unseat_box.ensures.back)

pub returns-clause-in_step : goal.returns-clause-in_step
returns-clause-in_step g c =
    let w = (watch-value g.row.B g.B.Observer g.B.Observer-dict g.B.Destruct-dict).it in
    let self = c.args.self.now in
    let name = c.args.name.now in
    let row = c.in-Some.row in
    let found = sym c.remove.ensures.value ∙ c.in-Some.is in
    let own = (guard_found w self c.requires.in_step.seats name row found).own in
    let roomy = record self { guards = c.remove.new.self; pool = c.reserve.new.self } in
    let later = plain_of w c.unseat_box.new.self in
    let step = unguard_answered (plain_of w self) name later
    (ap (λ o. unless (is_some o) (faults.Unknown name)) own)
    (left_plain w self c.requires.in_step.seats name row found c.remove.new.self
    c.remove.ensures.rows c.remove.ensures.differ roomy c.unseat_box.new.self refl
    c.reserve.ensures.items c.unseat_box.ensures.back) in
    record {
      seats = left_in_step w self c.requires.in_step.seats name row found c.remove.new.self
          c.remove.ensures.rows c.remove.ensures.differ roomy c.unseat_box.new.self refl
          c.reserve.ensures.items c.unseat_box.ensures.back;
      valid = unguard_valid (plain_of w self) name later c.requires.in_step.valid
          c.requires.stamps step;
    }
