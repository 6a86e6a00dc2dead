use Rattle.std.proofs.Common.{sym, subst}
use Rattle.base_items.specs.declared.items.ItemSort.TheVariants.{Node}
use Rattle.script_words.specs.declared.commands.Command.TheVariants as command
use Rattle.report_text.specs.declared.faults.StepFault.TheVariants as faults
use Rattle.report_text.specs.declared.replies.Reply.TheVariants.{Quiet}
use Rattle.plain_world.specs.Valid.{IsWorld}
use Rattle.plain_world.specs.declared.answers.Answer.TheVariants.{Answered}
use Rattle.plain_world.proofs.CommandsKept.{commands_kept}
use Rattle.desk_seats.specs.contracts.seat.SeatObserver.TheImpl.{watch-value}
use Rattle.desk_world.specs.Faults.{Answers}
use Rattle.desk_world.specs.Plain.{plain_of}
use Rattle.desk_world.proofs.DerivedMaps.{degree_step, degree_refused}
use Rattle.desk_world.proofs.Handed.{handed_on}
use Rattle.desk_world.proofs.MapCommands.{left}
use Rattle.desk_world.proofs.MapRefusals.{new_absent, no_stamps}
use Rattle.desk_world.proofs.new_degrees.World+Seat+B.new_degree.Goals as goal

pub returns-in_err-ask_new_map-clause-step : goal.returns-in_err-ask_new_map-clause-step
returns-in_err-ask_new_map-clause-step g c =
    let w = (watch-value g.row.B g.B.Observer g.B.Observer-dict g.B.Destruct-dict).it in
    let world = plain_of w c.args.self.now in
    let name = c.args.name.now in
    handed_on (Answers world (command.Degree name c.args.way) world)
    c.from_residual.result _ c.from_residual.ensures.1
    (degree_refused world world name c.args.way _ c.in_err-ask_new_map.ensures)

pub add_degree-requires-clause-in_step : goal.add_degree-requires-clause-in_step
add_degree-requires-clause-in_step g c =
    let w = (watch-value g.row.B g.B.Observer g.B.Observer-dict g.B.Destruct-dict).it in
    c.requires.in_step.seats

pub add_degree-requires-clause-new : goal.add_degree-requires-clause-new
add_degree-requires-clause-new g c =
    let w = (watch-value g.row.B g.B.Observer g.B.Observer-dict g.B.Destruct-dict).it in
    let world = plain_of w c.args.self.now in
    let name = c.args.name.now in
    new_absent world Node name c.in_ok-ask_new_map.ensures

pub returns-in_err-add_degree-clause-step : goal.returns-in_err-add_degree-clause-step
returns-in_err-add_degree-clause-step g c =
    let w = (watch-value g.row.B g.B.Observer g.B.Observer-dict g.B.Destruct-dict).it in
    let world = plain_of w c.args.self.now in
    let name = c.args.name.now in
    handed_on (Answers world (command.Degree name c.args.way)
    (plain_of w c.add_degree.new.self)) c.from_residual-in_err-add_degree.result faults.Memory
    c.from_residual-in_err-add_degree.ensures.1 c.in_err-add_degree.ensures.same

pub returns-in_err-add_degree-clause-in_step : goal.returns-in_err-add_degree-clause-in_step
returns-in_err-add_degree-clause-in_step g c =
    let w = (watch-value g.row.B g.B.Observer g.B.Observer-dict g.B.Destruct-dict).it in
    record {
      seats = c.add_degree.ensures.in_step;
      valid = subst IsWorld (sym c.in_err-add_degree.ensures.same) c.requires.in_step.valid;
    }

pub returns-in_err-add_degree-clause-stamps : goal.returns-in_err-add_degree-clause-stamps
returns-in_err-add_degree-clause-stamps g c =
    let w = (watch-value g.row.B g.B.Observer g.B.Observer-dict g.B.Destruct-dict).it in
    no_stamps c.args.self.now.graph.graph.graph c.add_degree.new.self.graph.graph.graph
    c.add_degree.ensures.graph

pub returns-clause-step : goal.returns-clause-step
returns-clause-step g c =
    let w = (watch-value g.row.B g.B.Observer g.B.Observer-dict g.B.Destruct-dict).it in
    let world = plain_of w c.args.self.now in
    let name = c.args.name.now in
    degree_step world (plain_of w c.add_degree.new.self) name c.args.way
    c.in_ok-ask_new_map.ensures c.in_ok-add_degree.ensures.made

pub returns-clause-in_step : goal.returns-clause-in_step
returns-clause-in_step g c =
    let w = (watch-value g.row.B g.B.Observer g.B.Observer-dict g.B.Destruct-dict).it in
    let world = plain_of w c.args.self.now in
    let name = c.args.name.now in
    let later = plain_of w c.add_degree.new.self in
    let step = degree_step world later name c.args.way c.in_ok-ask_new_map.ensures
    c.in_ok-add_degree.ensures.made in
    record {
      seats = c.add_degree.ensures.in_step;
      valid = commands_kept world later (command.Degree name c.args.way) (Answered Quiet)
          c.requires.in_step.valid c.requires.name (left world c.requires.stamps) step;
    }

pub returns-clause-stamps : goal.returns-clause-stamps
returns-clause-stamps g c =
    let w = (watch-value g.row.B g.B.Observer g.B.Observer-dict g.B.Destruct-dict).it in
    no_stamps c.args.self.now.graph.graph.graph c.add_degree.new.self.graph.graph.graph
    c.add_degree.ensures.graph
