use Rattle.std.proofs.Common.{sym, ◌∙◌}
use Rattle.script_words.specs.declared.commands.Command.TheVariants as command
use Rattle.desk_seats.specs.contracts.seat.SeatObserver.TheImpl.{watch-value}
use Rattle.desk_world.specs.Faults.{Answers}
use Rattle.desk_world.specs.Plain.{plain_of}
use Rattle.desk_world.proofs.Handed.{handed_on}
use Rattle.desk_world.proofs.ViewCommands.{layer_refused, view_is_new, view_answered, view_valid}
use Rattle.desk_world.proofs.ViewCommands.{view_there, view_is_alone}
use Rattle.desk_world.proofs.views.World+Seat+B.view.Goals as goal

pub returns-in_err-ask_layer-clause-step : goal.returns-in_err-ask_layer-clause-step
returns-in_err-ask_layer-clause-step g c =
    let w = (watch-value g.row.B g.B.Observer g.B.Observer-dict g.B.Destruct-dict).it in
    let world = plain_of w c.args.self.now in
    let name = c.args.name.now in
    let layer = c.args.layer.now in
    let below = c.args.below.now in
    let fault = c.in_err-ask_layer.field-0.0 in
    handed_on (Answers world (command.View name layer below) world)
    c.from_residual-in_err-ask_layer.result fault c.from_residual-in_err-ask_layer.ensures.1
    (layer_refused world name layer below c.in_ok-ask_view.ensures fault
    c.in_err-ask_layer.ensures)

pub put_view-requires-clause-new : goal.put_view-requires-clause-new
put_view-requires-clause-new g c =
    let w = (watch-value g.row.B g.B.Observer g.B.Observer-dict g.B.Destruct-dict).it in
    let self = c.args.self.now in
    sym (view_there w self c.args.name.now)
    ∙ view_is_new (plain_of w self) c.args.name.now c.args.layer.now c.args.below.now
    c.in_ok-ask_view.ensures c.in_ok-ask_layer.ensures c.in_ok-ask_layer_left.ensures

pub put_view-requires-clause-alone : goal.put_view-requires-clause-alone
put_view-requires-clause-alone g c =
    let w = (watch-value g.row.B g.B.Observer g.B.Observer-dict g.B.Destruct-dict).it in
    view_is_alone (plain_of w c.args.self.now) c.args.name.now c.args.layer.now c.args.below.now
    c.in_ok-ask_view.ensures c.in_ok-ask_layer.ensures c.in_ok-ask_layer_left.ensures
    c.requires.in_step.valid

pub returns-clause-in_step : goal.returns-clause-in_step
returns-clause-in_step g c =
    let w = (watch-value g.row.B g.B.Observer g.B.Observer-dict g.B.Destruct-dict).it in
    let world = plain_of w c.args.self.now in
    let later = plain_of w c.put_view.new.self in
    let name = c.args.name.now in
    let layer = c.args.layer.now in
    let below = c.args.below.now in
    record {
      seats = c.put_view.ensures.in_step;
      valid = view_valid world later c.requires.in_step.valid c.requires.stamps name layer below
          c.requires.valid
          (view_answered world name layer below c.in_ok-ask_view.ensures
          c.in_ok-ask_layer.ensures c.in_ok-ask_layer_left.ensures later
          c.in_ok-put_view.ensures.made);
    }
