use Rattle.std.proofs.Common.{sym, ap, ◌∙◌}
use Rattle.desk_seats.specs.contracts.seat.SeatObserver.TheImpl.{watch-value}
use Rattle.desk_world.specs.Plain.{plain_of}
use Rattle.script_words.specs.declared.commands.Command.TheVariants as command
use Rattle.report_text.specs.declared.replies.Reply.TheVariants.{Quiet}
use Rattle.plain_world.specs.declared.answers.Answer.TheVariants.{Answered}
use Rattle.plain_world.proofs.CommandsKept.{commands_kept}
use Rattle.desk_world.specs.Faults.{Answers}
use Rattle.desk_world.proofs.Handed.{handed_on}
use Rattle.desk_world.proofs.MapCommands.{drop_step, left}
use Rattle.desk_world.proofs.MapRefusals.{drop_unknown, drop_label, drop_used, no_stamps}
use Rattle.desk_world.proofs.map_commands.World+Seat+B.drop_map.Goals as goal

pub returns-in_err-ask_map-clause-step : goal.returns-in_err-ask_map-clause-step
returns-in_err-ask_map-clause-step g c =
    let w = (watch-value g.row.B g.B.Observer g.B.Observer-dict g.B.Destruct-dict).it in
    let world = plain_of w c.args.self.now in
    handed_on (Answers world (command.DropMap c.args.sort c.args.name.now) world)
    c.from_residual.result _ c.from_residual.ensures.1
    (drop_unknown world c.args.sort c.args.name.now _ c.in_err-ask_map.ensures)

pub returns-then-is_label-clause-step : goal.returns-then-is_label-clause-step
returns-then-is_label-clause-step g c =
    let w = (watch-value g.row.B g.B.Observer g.B.Observer-dict g.B.Destruct-dict).it in
    let world = plain_of w c.args.self.now in
    drop_label world c.args.sort c.args.name.now c.wrong_type.result c.in_ok-ask_map.ensures
    (sym c.is_label.ensures ∙ c.if-is_label.true) c.wrong_type.ensures

pub returns-in_err-ask_unread-clause-step : goal.returns-in_err-ask_unread-clause-step
returns-in_err-ask_unread-clause-step g c =
    let w = (watch-value g.row.B g.B.Observer g.B.Observer-dict g.B.Destruct-dict).it in
    let world = plain_of w c.args.self.now in
    handed_on (Answers world (command.DropMap c.args.sort c.args.name.now) world)
    c.from_residual-in_err-ask_unread.result _ c.from_residual-in_err-ask_unread.ensures.1
    (drop_used world c.args.sort c.args.name.now _ c.in_ok-ask_map.ensures
    (sym c.is_label.ensures ∙ c.if-is_label.false) c.in_err-ask_unread.ensures)

pub remove_map-requires-clause-in_step : goal.remove_map-requires-clause-in_step
remove_map-requires-clause-in_step g c = c.requires.in_step.seats

pub remove_map-requires-clause-unread : goal.remove_map-requires-clause-unread
remove_map-requires-clause-unread g c = c.in_ok-ask_unread.ensures

pub returns-clause-step : goal.returns-clause-step
returns-clause-step g c =
    let w = (watch-value g.row.B g.B.Observer g.B.Observer-dict g.B.Destruct-dict).it in
    let world = plain_of w c.args.self.now in
    let step = drop_step world (plain_of w c.remove_map.new.self) c.args.sort c.args.name.now
    c.in_ok-ask_map.ensures (sym c.is_label.ensures ∙ c.if-is_label.false)
    c.in_ok-ask_unread.ensures c.remove_map.ensures.gone in
    step

pub returns-clause-in_step : goal.returns-clause-in_step
returns-clause-in_step g c =
    let w = (watch-value g.row.B g.B.Observer g.B.Observer-dict g.B.Destruct-dict).it in
    let world = plain_of w c.args.self.now in
    let step = drop_step world (plain_of w c.remove_map.new.self) c.args.sort c.args.name.now
    c.in_ok-ask_map.ensures (sym c.is_label.ensures ∙ c.if-is_label.false)
    c.in_ok-ask_unread.ensures c.remove_map.ensures.gone in
    record {
      seats = c.remove_map.ensures.in_step;
      valid = commands_kept world (plain_of w c.remove_map.new.self)
          (command.DropMap c.args.sort c.args.name.now) (Answered Quiet) c.requires.in_step.valid tt
          (left world c.requires.stamps) step;
    }

pub returns-clause-stamps : goal.returns-clause-stamps
returns-clause-stamps g c =
    let w = (watch-value g.row.B g.B.Observer g.B.Observer-dict g.B.Destruct-dict).it in
    let world = plain_of w c.args.self.now in
    no_stamps c.args.self.now.graph.graph.graph c.remove_map.new.self.graph.graph.graph
    (ap (λ r. r.graph) c.remove_map.ensures.graph)
