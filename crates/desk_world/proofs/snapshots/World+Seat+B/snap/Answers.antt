use Rattle.std.proofs.Common.{refl, ap, ◌∙◌}
use Rattle.script_words.specs.declared.commands.Command.TheVariants as commands
use Rattle.report_text.specs.declared.faults.StepFault.TheVariants as faults
use Rattle.plain_world.specs.Tables.{has_entry, with_entry}
use Rattle.desk_seats.specs.contracts.seat.SeatObserver.TheImpl.{watch-value}
use Rattle.desk_world.specs.Faults.{Answers}
use Rattle.desk_world.specs.Plain.{plain_of}
use Rattle.desk_world.proofs.Answered.{same_stamps}
use Rattle.desk_world.proofs.Handed.{handed_on}
use Rattle.desk_world.proofs.SnapCommands.{new_row, snap_refused}
use Rattle.desk_world.proofs.SnapsReady.{made_in_step, made_stamps, made_step, ready_in_step}
use Rattle.desk_world.proofs.SnapsReady.{ready_plain, unmade_in_step, unmade_plain, unmade_stamps}
use Rattle.desk_world.proofs.snapshots.World+Seat+B.snap.Goals as goal

pub returns-in_err-ask_new_snapshot : goal.returns-in_err-ask_new_snapshot
returns-in_err-ask_new_snapshot g c =
    let w = (watch-value g.row.B g.B.Observer g.B.Observer-dict g.B.Destruct-dict).it in
    let world = plain_of w c.args.self.now in
    let asked = commands.Snap c.args.name.now in
    record {
      step = handed_on (Answers world asked world) c.from_residual.result _
          c.from_residual.ensures.1
          (snap_refused world c.args.name.now _ c.in_err-ask_new_snapshot.ensures);
      in_step = c.requires.in_step;
      stamps = same_stamps _ _ refl;
    }

pub returns-in_err-name : goal.returns-in_err-name
returns-in_err-name g c =
    let w = (watch-value g.row.B g.B.Observer g.B.Observer-dict g.B.Destruct-dict).it in
    let world = plain_of w c.args.self.now in
    let asked = commands.Snap c.args.name.now in
    record {
      step = handed_on (Answers world asked world) c.from_residual-in_err-name.result faults.Memory
          c.from_residual-in_err-name.ensures.1 refl;
      in_step = c.requires.in_step;
      stamps = same_stamps _ _ refl;
    }

pub returns-in_err-reserve : goal.returns-in_err-reserve
returns-in_err-reserve g c =
    let w = (watch-value g.row.B g.B.Observer g.B.Observer-dict g.B.Destruct-dict).it in
    let self = c.args.self.now in
    let world = plain_of w self in
    let asked = commands.Snap c.args.name.now in
    let rows = c.reserve.new.self in
    let same = c.reserve.ensures.rows in
    record {
      step = handed_on (Answers world asked (plain_of w (record self { snapshots = rows })))
          c.from_residual-in_err-reserve.result faults.Memory
          c.from_residual-in_err-reserve.ensures.1
          (ready_plain w self c.requires.in_step rows same);
      in_step = ready_in_step w self c.requires.in_step rows same;
      stamps = same_stamps _ _ refl;
    }

pub put-requires-clause-new : goal.put-requires-clause-new
put-requires-clause-new g c =
    let w = (watch-value g.row.B g.B.Observer g.B.Observer-dict g.B.Destruct-dict).it in
    let told = c.in_ok-name.name in
    ap (λ rows. has_entry rows told) c.reserve.ensures.rows
    ∙ new_row w c.args.self.now c.requires.in_step.seats c.args.name.now
    c.in_ok-ask_new_snapshot.ensures told (c.in_ok-name.ensures ∙ c.as_bytes.ensures)

pub returns-in-Some : goal.returns-in-Some
returns-in-Some g c =
    let w = (watch-value g.row.B g.B.Observer g.B.Observer-dict g.B.Destruct-dict).it in
    let self = c.args.self.now in
    let told = c.in_ok-name.name in
    let own = c.in_ok-name.ensures ∙ c.as_bytes.ensures in
    let free = c.in_ok-ask_new_snapshot.ensures in
    let put = c.put.ensures.rows
    ∙ ap (λ rows. with_entry rows told c.in-Some.keys) c.reserve.ensures.rows in
    let makes = c.in-Some.ensures.makes in
    let then = c.snapshot.ensures.in_step in
    record {
      step = made_step w self c.requires.in_step c.put.new.self c.requires.stamps
          c.snapshot.new.self c.args.name.now told c.in-Some.keys own free put makes then;
      in_step = made_in_step w self c.requires.in_step c.put.new.self c.requires.stamps
          c.snapshot.new.self c.args.name.now told c.in-Some.keys own free put makes then;
      stamps = made_stamps w self c.requires.in_step c.put.new.self c.requires.stamps
          c.snapshot.new.self c.args.name.now told c.in-Some.keys own free put makes then;
    }

pub returns-in-None : goal.returns-in-None
returns-in-None g c =
    let w = (watch-value g.row.B g.B.Observer g.B.Observer-dict g.B.Destruct-dict).it in
    let self = c.args.self.now in
    let rows = c.reserve.new.self in
    let same = c.reserve.ensures.rows in
    let still = c.in-None.ensures.same in
    let then = c.snapshot.ensures.in_step in
    record {
      step = unmade_plain w self c.requires.in_step rows same c.snapshot.new.self still then;
      in_step = unmade_in_step w self c.requires.in_step rows same c.snapshot.new.self still then;
      stamps = unmade_stamps w self c.requires.in_step rows same c.snapshot.new.self still then;
    }
