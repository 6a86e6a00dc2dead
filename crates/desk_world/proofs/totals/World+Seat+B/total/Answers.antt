use Rattle.std.proofs.Common.{refl, ◌∙◌, FitsSigned, rules}
use Rattle.std.specs.Int.{w128}
use Rattle.std.proofs.lemmas.Int.{to_z-of_z}
use Rattle.script_words.specs.declared.commands.Command.TheVariants as commands
use Rattle.script_words.specs.declared.commands.MapType.TheVariants as types
use Rattle.plain_world.specs.Demands as demand
use Rattle.desk_seats.specs.contracts.seat.SeatObserver.TheImpl.{watch-value}
use Rattle.desk_world.specs.Faults.{Answers}
use Rattle.desk_world.specs.Plain.{plain_of}
use Rattle.desk_world.proofs.Handed.{handed_on}
use Rattle.desk_world.proofs.ReadAnswers.{first_refused, second_refused, total_told}
use Rattle.desk_world.proofs.totals.World+Seat+B.total.Goals as goal

pub returns-in_err-ask_map : goal.returns-in_err-ask_map
returns-in_err-ask_map g c =
    let w = (watch-value g.row.B g.B.Observer g.B.Observer-dict g.B.Destruct-dict).it in
    let world = plain_of w c.args.self.now in
    let command = commands.Total c.args.sort c.args.map.now in
    handed_on (Answers world command world) c.from_residual.result _ c.from_residual.ensures.1
    (first_refused world c.args.sort c.args.map.now command
    (demand.HasType c.args.sort types.Ints c.args.map.now) refl _ c.in_err-ask_map.ensures)

pub returns-in_err-seat : goal.returns-in_err-seat
returns-in_err-seat g c =
    let w = (watch-value g.row.B g.B.Observer g.B.Observer-dict g.B.Destruct-dict).it in
    let world = plain_of w c.args.self.now in
    let command = commands.Total c.args.sort c.args.map.now in
    handed_on (Answers world command world) c.from_residual-in_err-seat.result _
    c.from_residual-in_err-seat.ensures.1
    (second_refused world c.args.sort c.args.map.now command
    (demand.HasType c.args.sort types.Ints c.args.map.now) refl _
    c.in_ok-ask_map.ensures c.in_err-seat.ensures.meets)

pub total-requires : goal.total-requires
total-requires g c = c.in_ok-seat.ensures.has.form

pub returns : goal.returns
returns g c =
    let w = (watch-value g.row.B g.B.Observer g.B.Observer-dict g.B.Destruct-dict).it in
    let world = plain_of w c.args.self.now in
    let fits : FitsSigned w128 c.total.result = search rules in
    total_told world c.args.sort c.args.map.now c.in_ok-ask_map.ensures
    (w c.in_ok-seat.seat.now).seen c.in_ok-seat.ensures.meets c.in_ok-seat.ensures.has
    _ (to_z-of_z w128 c.total.result fits ∙ c.total.ensures)
