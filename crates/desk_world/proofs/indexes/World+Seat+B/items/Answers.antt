use Rattle.std.proofs.Common.{refl}
use Rattle.report_text.specs.declared.faults.StepFault.TheVariants as faults
use Rattle.plain_world.specs.Replies.{is_item}
use Rattle.desk_seats.specs.Contents.{trues_in}
use Rattle.desk_seats.specs.Forms.{trues_form}
use Rattle.script_words.specs.declared.commands.Command.TheVariants as commands
use Rattle.plain_world.specs.Demands as demand
use Rattle.desk_seats.specs.contracts.seat.SeatObserver.TheImpl.{watch-value}
use Rattle.desk_world.specs.Faults.{Answers}
use Rattle.desk_world.specs.Plain.{plain_of}
use Rattle.desk_world.proofs.Handed.{handed_on}
use Rattle.desk_world.proofs.ReadAnswers.{first_refused, second_refused, items_told, all_held_live}
use Rattle.desk_world.proofs.indexes.World+Seat+B.items.Goals as goal

pub returns-in_err-ask_map : goal.returns-in_err-ask_map
returns-in_err-ask_map g c =
    let w = (watch-value g.row.B g.B.Observer g.B.Observer-dict g.B.Destruct-dict).it in
    let world = plain_of w c.args.self.now in
    let command = commands.Items c.args.sort c.args.index.now in
    handed_on (Answers world command world) c.from_residual.result _ c.from_residual.ensures.1
    (first_refused world c.args.sort c.args.index.now command
    (demand.IsIndex c.args.sort c.args.index.now) refl _ c.in_err-ask_map.ensures)

pub returns-in_err-seat : goal.returns-in_err-seat
returns-in_err-seat g c =
    let w = (watch-value g.row.B g.B.Observer g.B.Observer-dict g.B.Destruct-dict).it in
    let world = plain_of w c.args.self.now in
    let command = commands.Items c.args.sort c.args.index.now in
    handed_on (Answers world command world) c.from_residual-in_err-seat.result _
    c.from_residual-in_err-seat.ensures.1
    (second_refused world c.args.sort c.args.index.now command
    (demand.IsIndex c.args.sort c.args.index.now) refl _
    c.in_ok-ask_map.ensures c.in_err-seat.ensures.meets)

pub item_lines-requires-clause-form : goal.item_lines-requires-clause-form
item_lines-requires-clause-form g c = c.in_ok-seat.ensures.has.form

pub item_lines-requires-clause-live : goal.item_lines-requires-clause-live
item_lines-requires-clause-live g c =
    let w = (watch-value g.row.B g.B.Observer g.B.Observer-dict g.B.Destruct-dict).it in
    let world = plain_of w c.args.self.now in
    all_held_live trues_form trues_in world c.args.sort
    (is_item world c.args.sort c.args.index.now)
    (w c.in_ok-seat.seat.now).seen c.in_ok-seat.ensures.has c.requires.seats.graph.valid

pub returns-in_err-item_lines : goal.returns-in_err-item_lines
returns-in_err-item_lines g c =
    let w = (watch-value g.row.B g.B.Observer g.B.Observer-dict g.B.Destruct-dict).it in
    let world = plain_of w c.args.self.now in
    let command = commands.Items c.args.sort c.args.index.now in
    handed_on (Answers world command world) c.from_residual-in_err-item_lines.result faults.Memory
    c.from_residual-in_err-item_lines.ensures.1 refl

pub returns : goal.returns
returns g c =
    let w = (watch-value g.row.B g.B.Observer g.B.Observer-dict g.B.Destruct-dict).it in
    let world = plain_of w c.args.self.now in
    items_told world c.args.sort c.args.index.now c.in_ok-ask_map.ensures
    (w c.in_ok-seat.seat.now).seen c.in_ok-seat.ensures.meets c.in_ok-seat.ensures.has
    c.in_ok-item_lines.field-0 c.in_ok-item_lines.ensures
