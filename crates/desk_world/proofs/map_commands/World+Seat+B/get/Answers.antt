use Rattle.std.proofs.Common.{refl, ◌∷◌, [], ap, subst, is_some}
use Rattle.std.specs.Prelude.{unwrap_or}
use Rattle.script_words.specs.declared.commands.Command.TheVariants as commands
use Rattle.report_text.specs.declared.faults.StepFault.TheVariants as faults
use Rattle.plain_digraph.specs.Items.{IsLive}
use Rattle.plain_world.specs.Demands as demands
use Rattle.plain_world.proofs.TablesKept.{named_live}
use Rattle.desk_seats.specs.contracts.seat.SeatObserver.TheImpl.{watch-value}
use Rattle.desk_world.specs.Faults.{Answers}
use Rattle.desk_world.specs.Plain.{plain_of}
use Rattle.desk_world.proofs.Demanded.{refused, not_met, met}
use Rattle.desk_world.proofs.Handed.{handed_on}
use Rattle.desk_world.proofs.MapsTold.{told_value}
use Rattle.desk_world.proofs.map_commands.World+Seat+B.get.Goals as goal

pub returns-in_err-ask_map : goal.returns-in_err-ask_map
returns-in_err-ask_map g c =
    let w = (watch-value g.row.B g.B.Observer g.B.Observer-dict g.B.Destruct-dict).it in
    let world = plain_of w c.args.self.now in
    let sort = c.args.sort in
    let map = c.args.map.now in
    let item = c.args.item.now in
    let fault = c.in_err-ask_map.field-0.0 in
    let command = commands.Get sort map item in
    handed_on (Answers world command world) c.from_residual.result fault
    c.from_residual.ensures.1
    (refused world command fault
    (not_met world (demands.There (demands.Maps sort) map)
    (demands.There (demands.Labels sort) item ∷ []) fault c.in_err-ask_map.ensures))

pub returns-in_err-id : goal.returns-in_err-id
returns-in_err-id g c =
    let w = (watch-value g.row.B g.B.Observer g.B.Observer-dict g.B.Destruct-dict).it in
    let world = plain_of w c.args.self.now in
    let sort = c.args.sort in
    let map = c.args.map.now in
    let item = c.args.item.now in
    let fault = c.in_err-id.field-0.0 in
    let command = commands.Get sort map item in
    handed_on (Answers world command world) c.from_residual-in_err-id.result fault
    c.from_residual-in_err-id.ensures.1
    (refused world command fault
    (met world (demands.There (demands.Maps sort) map)
    (demands.There (demands.Labels sort) item ∷ []) fault c.in_ok-ask_map.ensures
    (not_met world (demands.There (demands.Labels sort) item) [] fault
    c.in_err-id.ensures.meets)))

pub value_text-requires-clause-live : goal.value_text-requires-clause-live
value_text-requires-clause-live g c =
    let w = (watch-value g.row.B g.B.Observer g.B.Observer-dict g.B.Destruct-dict).it in
    let world = plain_of w c.args.self.now in
    let named = c.in_ok-id.ensures.found in
    subst (IsLive world.graph c.args.sort) (ap (λ o. unwrap_or o 0) named)
    (named_live world c.args.sort c.args.item.now c.requires.seats.graph.valid (ap is_some named))

pub returns-in_err-value_text : goal.returns-in_err-value_text
returns-in_err-value_text g c =
    let w = (watch-value g.row.B g.B.Observer g.B.Observer-dict g.B.Destruct-dict).it in
    let world = plain_of w c.args.self.now in
    let command = commands.Get c.args.sort c.args.map.now c.args.item.now in
    handed_on (Answers world command world) c.from_residual-in_err-value_text.result faults.Memory
    c.from_residual-in_err-value_text.ensures.1 refl

pub returns : goal.returns
returns g c =
    let w = (watch-value g.row.B g.B.Observer g.B.Observer-dict g.B.Destruct-dict).it in
    told_value (plain_of w c.args.self.now) c.args.sort c.args.map.now c.args.item.now
    c.in_ok-id.id c.in_ok-value_text.field-0 c.in_ok-ask_map.ensures c.in_ok-id.ensures.meets
    c.in_ok-id.ensures.found c.in_ok-value_text.ensures
