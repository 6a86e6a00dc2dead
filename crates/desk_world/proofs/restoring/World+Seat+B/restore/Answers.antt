use Rattle.std.proofs.Common.{refl, sym, subst, ◌∙◌, ◌+◌, ◌<◌, Ok}
use Rattle.list_digraph.specs.Roomy.{Roomy}
use Rattle.script_words.specs.declared.commands.Command.TheVariants as commands
use Rattle.plain_digraph.specs.Alterations.{refusable_steps}
use Rattle.plain_digraph.specs.Copies.{copy_of}
use Rattle.report_text.specs.declared.replies.Reply.TheVariants.{Quiet}
use Rattle.plain_world.specs.Valid.{IsWorld}
use Rattle.desk_seats.specs.contracts.seat.SeatObserver.TheImpl.{watch-value}
use Rattle.desk_world.specs.Faults.{Answers}
use Rattle.desk_world.specs.Plain.{plain_of}
use Rattle.desk_world.proofs.Answered.{same_stamps}
use Rattle.desk_world.proofs.Demanded.{refused}
use Rattle.desk_world.proofs.Edited.{still_world}
use Rattle.desk_world.proofs.EditsDone.{are_refused, plain_stays, seats_stay, stamps_stay, veto_is}
use Rattle.desk_world.proofs.Handed.{handed_on}
use Rattle.desk_world.proofs.NamedRows.{stands}
use Rattle.desk_world.proofs.RestoreCommands.{is_restored, restore_answered, restore_refuses}
use Rattle.desk_world.proofs.RestoreCommands.{restore_vetoed}
use Rattle.desk_world.proofs.RestoreMaking.{alteration, has_room, is_made, name_there}
use Rattle.desk_world.proofs.restoring.World+Seat+B.restore.Goals as goal

pub returns-in_err-keys : goal.returns-in_err-keys
returns-in_err-keys g c =
    let w = (watch-value g.row.B g.B.Observer g.B.Observer-dict g.B.Destruct-dict).it in
    let world = plain_of w c.args.self.now in
    let asked = commands.Restore c.args.name.now in
    record {
      step = handed_on (Answers world asked world) c.from_residual.result _
          c.from_residual.ensures.1
          (refused world asked _ c.in_err-keys.ensures.meets);
      in_step = c.requires.in_step;
      stamps = same_stamps _ _ refl;
    }

pub restore-requires : goal.restore-requires
restore-requires g c =
    let w = (watch-value g.row.B g.B.Observer g.B.Observer-dict g.B.Destruct-dict).it in
    record {
      in_step = c.requires.in_step.seats.graph;
      there = name_there w c.args.self.now c.requires.in_step c.args.name.now _
          c.in_ok-keys.ensures.found;
    }

pub refusal-requires : goal.refusal-requires
refusal-requires g c =
    let w = (watch-value g.row.B g.B.Observer g.B.Observer-dict g.B.Destruct-dict).it in
    let self = c.args.self.now in
    let name = c.args.name.now in
    let keys = c.in_ok-keys.keys in
    let row = c.in_ok-keys.ensures.found in
    let valid = c.in_ok-keys.ensures.valid in
    let made = is_made w self c.requires.in_step name keys row valid in
    let steps = alteration w self c.requires.in_step name keys row valid made c.requires.stamps in
    let room = has_room w self c.requires.in_step name keys row valid made c.requires.stamps in
    let refuses = restore_refuses w self c.requires.in_step name keys row valid made
    c.restore.new.self c.in-Err.fault c.in-Err.ensures.leaves in
    record {
      in_step = seats_stay w self c.restore.new.self steps c.requires.in_step c.in-Err.fault room
          refuses;
      refused = (
        refusable_steps self.graph.graph.graph steps,
        are_refused w self c.restore.new.self steps c.requires.in_step c.in-Err.fault room refuses,
      );
    }

pub returns-in-Err : goal.returns-in-Err
returns-in-Err g c =
    let w = (watch-value g.row.B g.B.Observer g.B.Observer-dict g.B.Destruct-dict).it in
    let self = c.args.self.now in
    let name = c.args.name.now in
    let keys = c.in_ok-keys.keys in
    let row = c.in_ok-keys.ensures.found in
    let valid = c.in_ok-keys.ensures.valid in
    let world = plain_of w self in
    let a = c.restore.new.self in
    let made = is_made w self c.requires.in_step name keys row valid in
    let steps = alteration w self c.requires.in_step name keys row valid made c.requires.stamps in
    let room = has_room w self c.requires.in_step name keys row valid made c.requires.stamps in
    let refuses = restore_refuses w self c.requires.in_step name keys row valid made a
    c.in-Err.fault c.in-Err.ensures.leaves in
    let refused = are_refused w self a steps c.requires.in_step c.in-Err.fault room refuses in
    let same = plain_stays w self a steps c.requires.in_step c.in-Err.fault room refuses in
    record {
      step = restore_vetoed world name (copy_of made.making) made.found c.in_ok-keys.ensures.meets
          (plain_of w (record self { graph = a })) c.refusal.result
          (veto_is w self a steps c.requires.in_step c.in-Err.fault room refuses c.refusal.result
          (c.refusal.ensures (refusable_steps self.graph.graph.graph steps) refused)) same;
      in_step = record {
        seats = seats_stay w self a steps c.requires.in_step c.in-Err.fault room refuses;
        valid = subst IsWorld (sym same) c.requires.in_step.valid;
      };
      stamps = stamps_stay w self a steps c.requires.in_step c.in-Err.fault room refuses;
    }

pub let_guards_go-requires : goal.let_guards_go-requires
let_guards_go-requires g c =
    let w = (watch-value g.row.B g.B.Observer g.B.Observer-dict g.B.Destruct-dict).it in
    let self = c.args.self.now in
    let name = c.args.name.now in
    let keys = c.in_ok-keys.keys in
    let row = c.in_ok-keys.ensures.found in
    let valid = c.in_ok-keys.ensures.valid in
    let made = is_made w self c.requires.in_step name keys row valid in
    record {
      altered = (is_restored w self c.requires.in_step name keys row valid made c.requires.stamps
          c.remove.new.self c.restore.new.self c.remove.ensures.rows
          (stands self.snapshots.rows name keys c.remove.ensures.differ row)
          c.in-Ok.ensures.restores).seats;
    }

pub returns-in-Ok : goal.returns-in-Ok
returns-in-Ok g c =
    let w = (watch-value g.row.B g.B.Observer g.B.Observer-dict g.B.Destruct-dict).it in
    let self = c.args.self.now in
    let name = c.args.name.now in
    let keys = c.in_ok-keys.keys in
    let row = c.in_ok-keys.ensures.found in
    let valid = c.in_ok-keys.ensures.valid in
    let world = plain_of w self in
    let later = plain_of w c.let_guards_go.new.self in
    let made = is_made w self c.requires.in_step name keys row valid in
    let done = is_restored w self c.requires.in_step name keys row valid made c.requires.stamps
    c.remove.new.self c.restore.new.self c.remove.ensures.rows
    (stands self.snapshots.rows name keys c.remove.ensures.differ row) c.in-Ok.ensures.restores in
    let step = restore_answered world name (copy_of made.making) made.found
    c.in_ok-keys.ensures.meets later done.free (c.let_guards_go.ensures.same ∙ done.plain) in
    record {
      step = step;
      in_step = record {
        seats = c.let_guards_go.ensures.in_step;
        valid = still_world world later (commands.Restore name) c.requires.in_step.valid tt
            c.requires.stamps (Ok Quiet) step;
      };
      stamps = subst (λ (r : Roomy). r.graph.stamps < self.graph.graph.graph.stamps + 16777216)
          (sym c.let_guards_go.ensures.graph) done.stamps;
    }
