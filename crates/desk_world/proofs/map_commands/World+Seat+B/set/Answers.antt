use Rattle.std.proofs.Common.{sym, ap, subst}
use Rattle.desk_seats.specs.contracts.seat.SeatObserver.TheImpl.{watch-value}
use Rattle.desk_world.specs.Plain.{plain_of}
use Rattle.script_words.specs.declared.commands.Command.TheVariants as command
use Rattle.report_text.specs.declared.replies.Reply.TheVariants.{Quiet}
use Rattle.plain_world.specs.declared.answers.Answer.TheVariants.{Answered}
use Rattle.plain_world.proofs.CommandsKept.{commands_kept}
use Rattle.desk_world.specs.Values.{HasType}
use Rattle.desk_world.specs.Faults.{Answers}
use Rattle.desk_world.proofs.Handed.{handed_on}
use Rattle.desk_world.proofs.MapCommands.{set_step, left}
use Rattle.desk_world.proofs.MapRefusals.{set_unknown_map, set_unknown_item, set_wrong_type}
use Rattle.desk_world.proofs.MapRefusals.{set_bad_value, item_live, no_stamps}
use Rattle.desk_world.proofs.map_commands.World+Seat+B.set.Goals as goal

pub returns-in_err-ask_map-clause-step : goal.returns-in_err-ask_map-clause-step
returns-in_err-ask_map-clause-step g c =
    let w = (watch-value g.row.B g.B.Observer g.B.Observer-dict g.B.Destruct-dict).it in
    let world = plain_of w c.args.self.now in
    let map = c.args.map.now in
    let item = c.args.item.now in
    let text = c.args.text.now in
    handed_on (Answers world (command.Set c.args.sort map item text) world)
    c.from_residual.result _ c.from_residual.ensures.1
    (set_unknown_map world c.args.sort map item text _ c.in_err-ask_map.ensures)

pub returns-in_err-id-clause-step : goal.returns-in_err-id-clause-step
returns-in_err-id-clause-step g c =
    let w = (watch-value g.row.B g.B.Observer g.B.Observer-dict g.B.Destruct-dict).it in
    let world = plain_of w c.args.self.now in
    let map = c.args.map.now in
    let item = c.args.item.now in
    let text = c.args.text.now in
    handed_on (Answers world (command.Set c.args.sort map item text) world)
    c.from_residual-in_err-id.result _ c.from_residual-in_err-id.ensures.1
    (set_unknown_item world c.args.sort map item text _ c.in_ok-ask_map.ensures
    c.in_err-id.ensures.meets)

pub returns-in_err-kind-clause-step : goal.returns-in_err-kind-clause-step
returns-in_err-kind-clause-step g c =
    let w = (watch-value g.row.B g.B.Observer g.B.Observer-dict g.B.Destruct-dict).it in
    let world = plain_of w c.args.self.now in
    let map = c.args.map.now in
    let item = c.args.item.now in
    let text = c.args.text.now in
    handed_on (Answers world (command.Set c.args.sort map item text) world)
    c.from_residual-in_err-kind.result _ c.from_residual-in_err-kind.ensures.1
    (set_wrong_type world c.args.sort map item text _ c.in_ok-ask_map.ensures
    c.in_ok-id.ensures.meets c.in_err-kind.ensures.meets)

pub returns-in_err-value-clause-step : goal.returns-in_err-value-clause-step
returns-in_err-value-clause-step g c =
    let w = (watch-value g.row.B g.B.Observer g.B.Observer-dict g.B.Destruct-dict).it in
    let world = plain_of w c.args.self.now in
    let map = c.args.map.now in
    let item = c.args.item.now in
    let text = c.args.text.now in
    handed_on (Answers world (command.Set c.args.sort map item text) world)
    c.from_residual-in_err-value.result _ c.from_residual-in_err-value.ensures.1
    (set_bad_value world c.args.sort map item text _ c.in_ok-kind.kind
    c.in_ok-kind.ensures.found c.in_ok-ask_map.ensures
    c.in_ok-id.ensures.meets c.in_ok-kind.ensures.meets c.in_err-value.ensures.refused)

pub write_value-requires-clause-in_step : goal.write_value-requires-clause-in_step
write_value-requires-clause-in_step g c =
    let w = (watch-value g.row.B g.B.Observer g.B.Observer-dict g.B.Destruct-dict).it in
    let world = plain_of w c.args.self.now in
    c.requires.in_step.seats

pub write_value-requires-clause-live : goal.write_value-requires-clause-live
write_value-requires-clause-live g c =
    let w = (watch-value g.row.B g.B.Observer g.B.Observer-dict g.B.Destruct-dict).it in
    let world = plain_of w c.args.self.now in
    item_live world c.args.sort c.args.item.now c.in_ok-id.id c.requires.in_step.valid
    c.in_ok-id.ensures.found

pub write_value-requires-clause-of_type : goal.write_value-requires-clause-of_type
write_value-requires-clause-of_type g c =
    let w = (watch-value g.row.B g.B.Observer g.B.Observer-dict g.B.Destruct-dict).it in
    let world = plain_of w c.args.self.now in
    subst (HasType world c.args.sort c.args.map.now) (sym c.in_ok-value.ensures.of_type)
    c.in_ok-kind.ensures.found

pub returns-clause-step : goal.returns-clause-step
returns-clause-step g c =
    let w = (watch-value g.row.B g.B.Observer g.B.Observer-dict g.B.Destruct-dict).it in
    let world = plain_of w c.args.self.now in
    let step = set_step world c.args.sort c.args.map.now c.args.item.now c.args.text.now
    c.in_ok-kind.kind c.in_ok-kind.ensures.found (plain_of w c.write_value.new.self)
    c.in_ok-value.value c.in_ok-id.id c.requires.in_step.valid c.in_ok-ask_map.ensures
    c.in_ok-id.ensures.meets c.in_ok-kind.ensures.meets c.in_ok-id.ensures.found
    c.in_ok-value.ensures.spells c.in_ok-value.ensures.value c.in_ok-value.ensures.of_type
    c.write_value.ensures.written in
    step

pub returns-clause-in_step : goal.returns-clause-in_step
returns-clause-in_step g c =
    let w = (watch-value g.row.B g.B.Observer g.B.Observer-dict g.B.Destruct-dict).it in
    let world = plain_of w c.args.self.now in
    let step = set_step world c.args.sort c.args.map.now c.args.item.now c.args.text.now
    c.in_ok-kind.kind c.in_ok-kind.ensures.found (plain_of w c.write_value.new.self)
    c.in_ok-value.value c.in_ok-id.id c.requires.in_step.valid c.in_ok-ask_map.ensures
    c.in_ok-id.ensures.meets c.in_ok-kind.ensures.meets c.in_ok-id.ensures.found
    c.in_ok-value.ensures.spells c.in_ok-value.ensures.value c.in_ok-value.ensures.of_type
    c.write_value.ensures.written in
    record {
      seats = c.write_value.ensures.in_step;
      valid = commands_kept world (plain_of w c.write_value.new.self)
          (command.Set c.args.sort c.args.map.now c.args.item.now c.args.text.now) (Answered Quiet)
          c.requires.in_step.valid tt (left world c.requires.stamps) step;
    }

pub returns-clause-stamps : goal.returns-clause-stamps
returns-clause-stamps g c =
    let w = (watch-value g.row.B g.B.Observer g.B.Observer-dict g.B.Destruct-dict).it in
    let world = plain_of w c.args.self.now in
    no_stamps c.args.self.now.graph.graph.graph c.write_value.new.self.graph.graph.graph
    (ap (λ r. r.graph) c.write_value.ensures.graph)
