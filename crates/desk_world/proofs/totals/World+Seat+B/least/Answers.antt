use Rattle.std.proofs.Common.{refl, subst, sym, ◌≡◌, [], MatchOption, ◌∙◌, FitsSigned, w64}
use Rattle.std.proofs.Common.{rules}
use Rattle.std.proofs.lemmas.Int.{to_z-of_z}
use Rattle.report_text.specs.declared.faults.StepFault.TheVariants as faults
use Rattle.value_maps.specs.LeastEntry.{IsLeastEntry}
use Rattle.plain_world.specs.Replies.{int_value}
use Rattle.desk_seats.specs.Contents.{ints_in}
use Rattle.desk_seats.specs.Forms.{ints_form}
use Rattle.script_words.specs.declared.commands.Command.TheVariants as commands
use Rattle.script_words.specs.declared.commands.MapType.TheVariants as types
use Rattle.plain_world.specs.Demands as demand
use Rattle.desk_seats.specs.contracts.seat.SeatObserver.TheImpl.{watch-value}
use Rattle.desk_world.specs.Faults.{Answers}
use Rattle.desk_world.specs.Plain.{plain_of}
use Rattle.desk_world.proofs.Handed.{handed_on}
use Rattle.desk_world.proofs.ReadAnswers.{first_refused, second_refused, no_least, least_told}
use Rattle.desk_world.proofs.ReadAnswers.{held_live}
use Rattle.desk_world.proofs.totals.World+Seat+B.least.Goals as goal

pub returns-in_err-ask_map : goal.returns-in_err-ask_map
returns-in_err-ask_map g c =
    let w = (watch-value g.row.B g.B.Observer g.B.Observer-dict g.B.Destruct-dict).it in
    let world = plain_of w c.args.self.now in
    let command = commands.Least c.args.sort c.args.map.now in
    handed_on (Answers world command world) c.from_residual.result _ c.from_residual.ensures.1
    (first_refused world c.args.sort c.args.map.now command
    (demand.HasType c.args.sort types.Ints c.args.map.now) refl _ c.in_err-ask_map.ensures)

pub returns-in_err-seat : goal.returns-in_err-seat
returns-in_err-seat g c =
    let w = (watch-value g.row.B g.B.Observer g.B.Observer-dict g.B.Destruct-dict).it in
    let world = plain_of w c.args.self.now in
    let command = commands.Least c.args.sort c.args.map.now in
    handed_on (Answers world command world) c.from_residual-in_err-seat.result _
    c.from_residual-in_err-seat.ensures.1
    (second_refused world c.args.sort c.args.map.now command
    (demand.HasType c.args.sort types.Ints c.args.map.now) refl _
    c.in_ok-ask_map.ensures c.in_err-seat.ensures.meets)

pub least-requires : goal.least-requires
least-requires g c = c.in_ok-seat.ensures.has.form

pub returns-in_default : goal.returns-in_default
returns-in_default g c =
    let w = (watch-value g.row.B g.B.Observer g.B.Observer-dict g.B.Destruct-dict).it in
    let world = plain_of w c.args.self.now in
    let s = (w c.in_ok-seat.seat.now).seen in
    no_least world c.args.sort c.args.map.now c.in_ok-ask_map.ensures s
    c.in_ok-seat.ensures.meets c.in_ok-seat.ensures.has
    (subst (λ o. MatchOption o (ints_in s ≡ []) (λ found. IsLeastEntry (ints_in s) found.0 found.1))
    c.in_default.is c.least.ensures)

pub label_of-requires-clause-live : goal.label_of-requires-clause-live
label_of-requires-clause-live g c =
    let w = (watch-value g.row.B g.B.Observer g.B.Observer-dict g.B.Destruct-dict).it in
    let world = plain_of w c.args.self.now in
    let s = (w c.in_ok-seat.seat.now).seen in
    let is = subst (λ o. MatchOption o (ints_in s ≡ [])
    (λ found. IsLeastEntry (ints_in s) found.0 found.1)) c.in-Some.is c.least.ensures in
    held_live ints_form ints_in world c.args.sort (int_value world c.args.sort c.args.map.now) s
    c.in_ok-seat.ensures.has c.requires.seats.graph.valid c.in-Some.id c.in-Some.value is.has

pub returns-in_err-label : goal.returns-in_err-label
returns-in_err-label g c =
    let w = (watch-value g.row.B g.B.Observer g.B.Observer-dict g.B.Destruct-dict).it in
    let world = plain_of w c.args.self.now in
    let command = commands.Least c.args.sort c.args.map.now in
    handed_on (Answers world command world) c.from_residual-in_err-label.result faults.Memory
    c.from_residual-in_err-label.ensures.1 refl

pub returns : goal.returns
returns g c =
    let w = (watch-value g.row.B g.B.Observer g.B.Observer-dict g.B.Destruct-dict).it in
    let world = plain_of w c.args.self.now in
    let s = (w c.in_ok-seat.seat.now).seen in
    let is = subst (λ o. MatchOption o (ints_in s ≡ [])
    (λ found. IsLeastEntry (ints_in s) found.0 found.1)) c.in-Some.is c.least.ensures in
    let fits : FitsSigned w64 c.in-Some.value = search rules in
    let same = sym (to_z-of_z w64 c.in-Some.value fits) in
    least_told world c.args.sort c.args.map.now c.in_ok-ask_map.ensures s
    c.in_ok-seat.ensures.meets c.in_ok-seat.ensures.has c.requires.seats.graph.valid
    c.in-Some.id _ c.in_ok-label.label (subst (IsLeastEntry (ints_in s) c.in-Some.id) same is)
    (c.in_ok-label.ensures ∙ c.as_bytes.ensures ∙ c.label_of.ensures)
