use Rattle.std.proofs.Common.{sym, subst}
use Rattle.script_words.specs.declared.commands.Command.TheVariants as command
use Rattle.report_text.specs.declared.faults.StepFault.TheVariants as faults
use Rattle.report_text.specs.declared.replies.Reply.TheVariants.{Quiet}
use Rattle.plain_world.specs.Valid.{IsWorld}
use Rattle.plain_world.specs.declared.answers.Answer.TheVariants.{Answered}
use Rattle.plain_world.proofs.CommandsKept.{commands_kept}
use Rattle.desk_seats.specs.contracts.seat.SeatObserver.TheImpl.{watch-value}
use Rattle.desk_world.specs.Faults.{Answers}
use Rattle.desk_world.specs.Plain.{plain_of}
use Rattle.desk_world.proofs.DerivedMaps.{index_step, index_unknown, index_taken, index_wrong_type}
use Rattle.desk_world.proofs.DerivedMaps.{bools_typed}
use Rattle.desk_world.proofs.Handed.{handed_on}
use Rattle.desk_world.proofs.MapCommands.{left}
use Rattle.desk_world.proofs.MapRefusals.{new_absent, no_stamps}
use Rattle.desk_world.proofs.new_indexes.World+Seat+B.new_index.Goals as goal

pub returns-in_err-ask_map-clause-step : goal.returns-in_err-ask_map-clause-step
returns-in_err-ask_map-clause-step g c =
    let w = (watch-value g.row.B g.B.Observer g.B.Observer-dict g.B.Destruct-dict).it in
    let world = plain_of w c.args.self.now in
    let index = c.args.index.now in
    let map = c.args.map.now in
    let sort = c.args.sort in
    handed_on (Answers world (command.Trues sort index map) world)
    c.from_residual.result _ c.from_residual.ensures.1
    (index_unknown world sort index map _ c.in_err-ask_map.ensures)

pub returns-in_err-ask_new_map-clause-step : goal.returns-in_err-ask_new_map-clause-step
returns-in_err-ask_new_map-clause-step g c =
    let w = (watch-value g.row.B g.B.Observer g.B.Observer-dict g.B.Destruct-dict).it in
    let world = plain_of w c.args.self.now in
    let index = c.args.index.now in
    let map = c.args.map.now in
    let sort = c.args.sort in
    handed_on (Answers world (command.Trues sort index map) world)
    c.from_residual-in_err-ask_new_map.result _ c.from_residual-in_err-ask_new_map.ensures.1
    (index_taken world sort index map _ c.in_ok-ask_map.ensures c.in_err-ask_new_map.ensures)

pub returns-in_err-ask_type-clause-step : goal.returns-in_err-ask_type-clause-step
returns-in_err-ask_type-clause-step g c =
    let w = (watch-value g.row.B g.B.Observer g.B.Observer-dict g.B.Destruct-dict).it in
    let world = plain_of w c.args.self.now in
    let index = c.args.index.now in
    let map = c.args.map.now in
    let sort = c.args.sort in
    handed_on (Answers world (command.Trues sort index map) world)
    c.from_residual-in_err-ask_type.result _ c.from_residual-in_err-ask_type.ensures.1
    (index_wrong_type world sort index map _ c.in_ok-ask_map.ensures c.in_ok-ask_new_map.ensures
    c.in_err-ask_type.ensures)

pub add_index-requires-clause-in_step : goal.add_index-requires-clause-in_step
add_index-requires-clause-in_step g c =
    let w = (watch-value g.row.B g.B.Observer g.B.Observer-dict g.B.Destruct-dict).it in
    c.requires.in_step.seats

pub add_index-requires-clause-new : goal.add_index-requires-clause-new
add_index-requires-clause-new g c =
    let w = (watch-value g.row.B g.B.Observer g.B.Observer-dict g.B.Destruct-dict).it in
    let world = plain_of w c.args.self.now in
    let index = c.args.index.now in
    let map = c.args.map.now in
    let sort = c.args.sort in
    new_absent world sort index c.in_ok-ask_new_map.ensures

pub add_index-requires-clause-bools : goal.add_index-requires-clause-bools
add_index-requires-clause-bools g c =
    let w = (watch-value g.row.B g.B.Observer g.B.Observer-dict g.B.Destruct-dict).it in
    let world = plain_of w c.args.self.now in
    let index = c.args.index.now in
    let map = c.args.map.now in
    let sort = c.args.sort in
    bools_typed world sort index map c.in_ok-ask_type.ensures

pub returns-in_err-add_index-clause-step : goal.returns-in_err-add_index-clause-step
returns-in_err-add_index-clause-step g c =
    let w = (watch-value g.row.B g.B.Observer g.B.Observer-dict g.B.Destruct-dict).it in
    let world = plain_of w c.args.self.now in
    let index = c.args.index.now in
    let map = c.args.map.now in
    let sort = c.args.sort in
    handed_on (Answers world (command.Trues sort index map)
    (plain_of w c.add_index.new.self)) c.from_residual-in_err-add_index.result faults.Memory
    c.from_residual-in_err-add_index.ensures.1 c.in_err-add_index.ensures.same

pub returns-in_err-add_index-clause-in_step : goal.returns-in_err-add_index-clause-in_step
returns-in_err-add_index-clause-in_step g c =
    let w = (watch-value g.row.B g.B.Observer g.B.Observer-dict g.B.Destruct-dict).it in
    record {
      seats = c.add_index.ensures.in_step;
      valid = subst IsWorld (sym c.in_err-add_index.ensures.same) c.requires.in_step.valid;
    }

pub returns-in_err-add_index-clause-stamps : goal.returns-in_err-add_index-clause-stamps
returns-in_err-add_index-clause-stamps g c =
    let w = (watch-value g.row.B g.B.Observer g.B.Observer-dict g.B.Destruct-dict).it in
    no_stamps c.args.self.now.graph.graph.graph c.add_index.new.self.graph.graph.graph
    c.add_index.ensures.graph

pub returns-clause-step : goal.returns-clause-step
returns-clause-step g c =
    let w = (watch-value g.row.B g.B.Observer g.B.Observer-dict g.B.Destruct-dict).it in
    let world = plain_of w c.args.self.now in
    let index = c.args.index.now in
    let map = c.args.map.now in
    let sort = c.args.sort in
    let later = plain_of w c.add_index.new.self in
    let step = index_step world sort index map later c.in_ok-ask_map.ensures
    c.in_ok-ask_new_map.ensures c.in_ok-ask_type.ensures c.in_ok-add_index.ensures.made in
    step

pub returns-clause-in_step : goal.returns-clause-in_step
returns-clause-in_step g c =
    let w = (watch-value g.row.B g.B.Observer g.B.Observer-dict g.B.Destruct-dict).it in
    let world = plain_of w c.args.self.now in
    let index = c.args.index.now in
    let map = c.args.map.now in
    let sort = c.args.sort in
    let later = plain_of w c.add_index.new.self in
    let step = index_step world sort index map later c.in_ok-ask_map.ensures
    c.in_ok-ask_new_map.ensures c.in_ok-ask_type.ensures c.in_ok-add_index.ensures.made in
    record {
      seats = c.add_index.ensures.in_step;
      valid = commands_kept world later (command.Trues sort index map) (Answered Quiet)
          c.requires.in_step.valid c.requires.name (left world c.requires.stamps) step;
    }

pub returns-clause-stamps : goal.returns-clause-stamps
returns-clause-stamps g c =
    let w = (watch-value g.row.B g.B.Observer g.B.Observer-dict g.B.Destruct-dict).it in
    no_stamps c.args.self.now.graph.graph.graph c.add_index.new.self.graph.graph.graph
    c.add_index.ensures.graph
