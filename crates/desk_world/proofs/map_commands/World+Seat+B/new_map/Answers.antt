use Rattle.std.proofs.Common.{sym, subst}
use Rattle.desk_seats.specs.contracts.seat.SeatObserver.TheImpl.{watch-value}
use Rattle.desk_world.specs.Plain.{plain_of}
use Rattle.plain_world.specs.Valid.{IsWorld}
use Rattle.report_text.specs.declared.faults.StepFault.TheVariants as faults
use Rattle.desk_world.specs.Faults.{Answers}
use Rattle.desk_world.specs.Values.{new_map_command}
use Rattle.desk_world.proofs.Handed.{handed_on}
use Rattle.desk_world.proofs.MapCommands.{new_map_step, new_map_valid}
use Rattle.desk_world.proofs.MapRefusals.{new_map_refused, new_absent, no_stamps}
use Rattle.desk_world.proofs.map_commands.World+Seat+B.new_map.Goals as goal

pub returns-in_err-ask_new_map-clause-step : goal.returns-in_err-ask_new_map-clause-step
returns-in_err-ask_new_map-clause-step g c =
    let w = (watch-value g.row.B g.B.Observer g.B.Observer-dict g.B.Destruct-dict).it in
    let world = plain_of w c.args.self.now in
    let name = c.args.name.now in
    handed_on (Answers world (new_map_command c.args.sort name c.args.kind) world)
    c.from_residual.result _ c.from_residual.ensures.1
    (new_map_refused world c.args.sort name _ c.args.kind c.in_err-ask_new_map.ensures)

pub add_map-requires-clause-in_step : goal.add_map-requires-clause-in_step
add_map-requires-clause-in_step g c =
    let w = (watch-value g.row.B g.B.Observer g.B.Observer-dict g.B.Destruct-dict).it in
    let world = plain_of w c.args.self.now in
    c.requires.in_step.seats

pub add_map-requires-clause-new : goal.add_map-requires-clause-new
add_map-requires-clause-new g c =
    let w = (watch-value g.row.B g.B.Observer g.B.Observer-dict g.B.Destruct-dict).it in
    let world = plain_of w c.args.self.now in
    new_absent world c.args.sort c.args.name.now c.in_ok-ask_new_map.ensures

pub returns-in_err-add_map-clause-step : goal.returns-in_err-add_map-clause-step
returns-in_err-add_map-clause-step g c =
    let w = (watch-value g.row.B g.B.Observer g.B.Observer-dict g.B.Destruct-dict).it in
    let world = plain_of w c.args.self.now in
    handed_on (Answers world (new_map_command c.args.sort c.args.name.now c.args.kind)
    (plain_of w c.add_map.new.self)) c.from_residual-in_err-add_map.result faults.Memory
    c.from_residual-in_err-add_map.ensures.1 c.in_err-add_map.ensures.same

pub returns-in_err-add_map-clause-in_step : goal.returns-in_err-add_map-clause-in_step
returns-in_err-add_map-clause-in_step g c =
    let w = (watch-value g.row.B g.B.Observer g.B.Observer-dict g.B.Destruct-dict).it in
    let world = plain_of w c.args.self.now in
    record {
      seats = c.add_map.ensures.in_step;
      valid = subst IsWorld (sym c.in_err-add_map.ensures.same) c.requires.in_step.valid;
    }

pub returns-in_err-add_map-clause-stamps : goal.returns-in_err-add_map-clause-stamps
returns-in_err-add_map-clause-stamps g c =
    let w = (watch-value g.row.B g.B.Observer g.B.Observer-dict g.B.Destruct-dict).it in
    let world = plain_of w c.args.self.now in
    no_stamps c.args.self.now.graph.graph.graph c.add_map.new.self.graph.graph.graph
    c.add_map.ensures.graph

pub returns-clause-step : goal.returns-clause-step
returns-clause-step g c =
    let w = (watch-value g.row.B g.B.Observer g.B.Observer-dict g.B.Destruct-dict).it in
    let world = plain_of w c.args.self.now in
    let step = new_map_step world (plain_of w c.add_map.new.self) c.args.name.now c.args.kind
    c.args.sort c.in_ok-ask_new_map.ensures c.in_ok-add_map.ensures.made in
    step

pub returns-clause-in_step : goal.returns-clause-in_step
returns-clause-in_step g c =
    let w = (watch-value g.row.B g.B.Observer g.B.Observer-dict g.B.Destruct-dict).it in
    let world = plain_of w c.args.self.now in
    let step = new_map_step world (plain_of w c.add_map.new.self) c.args.name.now c.args.kind
    c.args.sort c.in_ok-ask_new_map.ensures c.in_ok-add_map.ensures.made in
    record {
      seats = c.add_map.ensures.in_step;
      valid = new_map_valid world (plain_of w c.add_map.new.self) c.args.name.now c.args.kind
          c.args.sort c.requires.in_step.valid c.requires.name c.requires.stamps step;
    }

pub returns-clause-stamps : goal.returns-clause-stamps
returns-clause-stamps g c =
    let w = (watch-value g.row.B g.B.Observer g.B.Observer-dict g.B.Destruct-dict).it in
    let world = plain_of w c.args.self.now in
    no_stamps c.args.self.now.graph.graph.graph c.add_map.new.self.graph.graph.graph
    c.add_map.ensures.graph
