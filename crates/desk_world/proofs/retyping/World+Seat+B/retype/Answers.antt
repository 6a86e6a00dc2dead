use Rattle.std.proofs.Common.{ap}
use Rattle.desk_seats.specs.contracts.seat.SeatObserver.TheImpl.{watch-value}
use Rattle.script_words.specs.declared.commands.Command.TheVariants as command
use Rattle.report_text.specs.declared.replies.Reply.TheVariants.{Quiet}
use Rattle.plain_world.specs.declared.answers.Answer.TheVariants.{Answered}
use Rattle.plain_world.proofs.CommandsKept.{commands_kept}
use Rattle.desk_world.specs.Faults.{Answers}
use Rattle.desk_world.specs.Plain.{plain_of}
use Rattle.desk_world.proofs.Handed.{handed_on}
use Rattle.desk_world.proofs.MapCommands.{left}
use Rattle.desk_world.proofs.MapRefusals.{no_stamps}
use Rattle.desk_world.proofs.RetypeSteps.{retype_unknown, retype_valueless, retype_read}
use Rattle.desk_world.proofs.RetypeSteps.{retype_unspelled, retype_step}
use Rattle.desk_world.proofs.retyping.World+Seat+B.retype.Goals as goal

pub returns-in_err-ask_map-clause-step : goal.returns-in_err-ask_map-clause-step
returns-in_err-ask_map-clause-step g c =
    let w = (watch-value g.row.B g.B.Observer g.B.Observer-dict g.B.Destruct-dict).it in
    let world = plain_of w c.args.self.now in
    let map = c.args.map.now in
    handed_on (Answers world (command.Retype c.args.sort map c.args.kind) world)
    c.from_residual.result _ c.from_residual.ensures.1
    (retype_unknown world c.args.sort map c.args.kind _ c.in_err-ask_map.ensures)

pub returns-in_err-value_type-clause-step : goal.returns-in_err-value_type-clause-step
returns-in_err-value_type-clause-step g c =
    let w = (watch-value g.row.B g.B.Observer g.B.Observer-dict g.B.Destruct-dict).it in
    let world = plain_of w c.args.self.now in
    let map = c.args.map.now in
    handed_on (Answers world (command.Retype c.args.sort map c.args.kind) world)
    c.from_residual-in_err-value_type.result _ c.from_residual-in_err-value_type.ensures.1
    (retype_valueless world c.args.sort map c.args.kind _ c.in_ok-ask_map.ensures
    c.in_err-value_type.ensures.meets)

pub returns-in_err-ask_unread-clause-step : goal.returns-in_err-ask_unread-clause-step
returns-in_err-ask_unread-clause-step g c =
    let w = (watch-value g.row.B g.B.Observer g.B.Observer-dict g.B.Destruct-dict).it in
    let world = plain_of w c.args.self.now in
    let map = c.args.map.now in
    handed_on (Answers world (command.Retype c.args.sort map c.args.kind) world)
    c.from_residual-in_err-ask_unread.result _ c.from_residual-in_err-ask_unread.ensures.1
    (retype_read world c.args.sort map c.args.kind _ c.in_ok-ask_map.ensures
    c.in_ok-value_type.ensures.meets c.in_err-ask_unread.ensures)

pub returns-in_err-values-clause-step : goal.returns-in_err-values-clause-step
returns-in_err-values-clause-step g c =
    let w = (watch-value g.row.B g.B.Observer g.B.Observer-dict g.B.Destruct-dict).it in
    let world = plain_of w c.args.self.now in
    let map = c.args.map.now in
    handed_on (Answers world (command.Retype c.args.sort map c.args.kind) world)
    c.from_residual-in_err-values.result _ c.from_residual-in_err-values.ensures.1
    (retype_unspelled world c.args.sort map c.args.kind _ c.in_ok-ask_map.ensures
    c.in_ok-value_type.ensures.meets c.in_ok-ask_unread.ensures c.in_err-values.ensures.meets)

pub respelled-requires : goal.respelled-requires
respelled-requires g c = record {
  in_step = c.requires.in_step;
  values = c.in_ok-value_type.ensures.meets;
}

pub put_values-requires : goal.put_values-requires
put_values-requires g c = record {
  in_step = c.requires.in_step.seats;
  own = c.in_ok-value_type.ensures.meets;
  unread = c.in_ok-ask_unread.ensures;
  seat = c.in_ok-values.ensures.seat;
  values = c.in_ok-values.ensures.values;
}

pub returns : goal.returns
returns g c =
    let w = (watch-value g.row.B g.B.Observer g.B.Observer-dict g.B.Destruct-dict).it in
    let world = plain_of w c.args.self.now in
    let later = plain_of w c.put_values.new.self in
    let step = retype_step world c.args.sort c.args.map.now c.args.kind later
    c.in_ok-ask_map.ensures c.in_ok-value_type.ensures.meets c.in_ok-ask_unread.ensures
    c.in_ok-values.ensures.meets c.put_values.ensures.put in
    record {
      step = step;
      in_step = record {
        seats = c.put_values.ensures.in_step;
        valid = commands_kept world later
            (command.Retype c.args.sort c.args.map.now c.args.kind) (Answered Quiet)
            c.requires.in_step.valid tt (left world c.requires.stamps) step;
      };
      stamps = no_stamps c.args.self.now.graph.graph.graph
          c.put_values.new.self.graph.graph.graph (ap (λ r. r.graph) c.put_values.ensures.graph);
    }
