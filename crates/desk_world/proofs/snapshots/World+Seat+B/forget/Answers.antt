use Rattle.std.proofs.Common.{sym, subst, ◌∙◌}
use Rattle.report_text.specs.declared.faults.Fault.TheVariants as faults
use Rattle.plain_world.specs.Refusals.{unless}
use Rattle.desk_seats.specs.contracts.seat.SeatObserver.TheImpl.{watch-value}
use Rattle.desk_world.specs.Faults.{Is}
use Rattle.desk_world.specs.Plain.{plain_of}
use Rattle.desk_world.proofs.NamedRows.{stands}
use Rattle.desk_world.proofs.SnapCommands.{forget_refused, forget_answered, forget_valid, row_there}
use Rattle.desk_world.proofs.SnapRows.{with_snaps}
use Rattle.desk_world.proofs.SnapsFound.{snap_there}
use Rattle.desk_world.proofs.SnapsGoing.{less_in_step, snap_gone}
use Rattle.desk_world.proofs.snapshots.World+Seat+B.forget.Goals as goal

pub returns-then-not-has-clause-step : goal.returns-then-not-has-clause-step
returns-then-not-has-clause-step g c =
    let w = (watch-value g.row.B g.B.Observer g.B.Observer-dict g.B.Destruct-dict).it in
    let self = c.args.self.now in
    let name = c.args.name.now in
    forget_refused (plain_of w self) name _
    (subst (λ b. Is (unless b (faults.Unknown name)) c.unknown.result)
    (sym (snap_there w self c.requires.in_step.seats name ∙ sym c.has.ensures ∙ c.if-not-has.true))
    c.unknown.ensures)

pub returns-clause-step : goal.returns-clause-step
returns-clause-step g c =
    let w = (watch-value g.row.B g.B.Observer g.B.Observer-dict g.B.Destruct-dict).it in
    let self = c.args.self.now in
    let name = c.args.name.now in
    let keys = c.in-Some.keys in
    let found = sym c.remove.ensures.value ∙ c.in-Some.is in
    forget_answered (plain_of w self) name
    (plain_of w (with_snaps self c.remove.new.self c.forget.new.self))
    (row_there w self c.requires.in_step.seats name keys found)
    (snap_gone w self c.remove.new.self c.forget.new.self name keys c.requires.in_step.seats
    c.remove.ensures.rows (stands self.snapshots.rows name keys c.remove.ensures.differ found)
    c.forget.ensures.forgotten c.forget.ensures.graph
    (c.forget.ensures.in_step c.requires.in_step.seats.graph))

pub returns-clause-in_step : goal.returns-clause-in_step
returns-clause-in_step g c =
    let w = (watch-value g.row.B g.B.Observer g.B.Observer-dict g.B.Destruct-dict).it in
    let self = c.args.self.now in
    let name = c.args.name.now in
    let keys = c.in-Some.keys in
    let found = sym c.remove.ensures.value ∙ c.in-Some.is in
    let at = stands self.snapshots.rows name keys c.remove.ensures.differ found in
    let then = c.forget.ensures.in_step c.requires.in_step.seats.graph in
    let later = plain_of w (with_snaps self c.remove.new.self c.forget.new.self) in
    let step = forget_answered (plain_of w self) name later
    (row_there w self c.requires.in_step.seats name keys found)
    (snap_gone w self c.remove.new.self c.forget.new.self name keys c.requires.in_step.seats
    c.remove.ensures.rows at c.forget.ensures.forgotten c.forget.ensures.graph then) in
    record {
      seats = less_in_step w self c.remove.new.self c.forget.new.self name keys
          c.requires.in_step.seats c.remove.ensures.rows at c.forget.ensures.forgotten
          c.forget.ensures.graph then;
      valid = forget_valid (plain_of w self) name later c.requires.in_step.valid
          c.requires.stamps step;
    }
