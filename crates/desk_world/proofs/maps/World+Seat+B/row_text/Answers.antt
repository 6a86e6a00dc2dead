use Rattle.std.proofs.Common.{ap, sym, ◌∙◌, Some, FitsSigned, w64, rules}
use Rattle.std.specs.Fmt.{signed_decimal}
use Rattle.std.specs.Option.{option_copied}
use Rattle.std.proofs.lemmas.Bool.{true≢false}
use Rattle.std.proofs.lemmas.Int.{to_z-of_z}
use Rattle.std.proofs.lemmas.Result.{IfOk-weaker}
use Rattle.notify_chain.specs.Seats.{seat_seen}
use Rattle.desk_seats.specs.contracts.seat.SeatObserver.TheImpl.{watch-value}
use Rattle.desk_world.specs.InStep.{has_values}
use Rattle.desk_world.proofs.MapsRead as read
use Rattle.desk_world.proofs.maps.World+Seat+B.row_text.Goals as goal

pub unreachable-requires : goal.unreachable-requires
unreachable-requires g c =
    let w = (watch-value g.row.B g.B.Observer g.B.Observer-dict g.B.Destruct-dict).it in
    let row = c.args.row.now in
    read.map_seated w c.args.self.now c.args.sort row c.requires.in_step c.requires.row
    c.requires.values
    (sym (ap (λ r. seat_seen w row.key.0 (option_copied r)) c.in_default.is) ∙ c.seat.ensures)

pub unreachable-requires-in-Degrees : goal.unreachable-requires-in-Degrees
unreachable-requires-in-Degrees g c =
    true≢false (sym c.requires.values ∙ ap has_values c.in-Degrees.is)

pub unreachable-requires-in-Trues : goal.unreachable-requires-in-Trues
unreachable-requires-in-Trues g c =
    true≢false (sym c.requires.values ∙ ap has_values c.in-Trues.is)

pub int-requires-clause-form : goal.int-requires-clause-form
int-requires-clause-form g c =
    let w = (watch-value g.row.B g.B.Observer g.B.Observer-dict g.B.Destruct-dict).it in
    let self = c.args.self.now in
    let row = c.args.row.now in
    let seat = c.in-Some.seat.now in
    let has = read.map_seat w self c.args.sort row seat c.requires.in_step c.requires.row
    c.requires.values
    (sym (ap (λ r. seat_seen w row.key.0 (option_copied r)) c.in-Some.is) ∙ c.seat.ensures) in
    read.ints_form w self c.args.sort row seat c.requires.in_step has c.args.id c.requires.live
    c.in-Ints.is

pub int-requires-clause-live : goal.int-requires-clause-live
int-requires-clause-live g c =
    let w = (watch-value g.row.B g.B.Observer g.B.Observer-dict g.B.Destruct-dict).it in
    let self = c.args.self.now in
    let row = c.args.row.now in
    let seat = c.in-Some.seat.now in
    let has = read.map_seat w self c.args.sort row seat c.requires.in_step c.requires.row
    c.requires.values
    (sym (ap (λ r. seat_seen w row.key.0 (option_copied r)) c.in-Some.is) ∙ c.seat.ensures) in
    read.int_live w self c.args.sort row seat c.requires.in_step has c.args.id c.requires.live
    c.in-Ints.is

pub returns-in-Ints : goal.returns-in-Ints
returns-in-Ints g c =
    let w = (watch-value g.row.B g.B.Observer g.B.Observer-dict g.B.Destruct-dict).it in
    let self = c.args.self.now in
    let row = c.args.row.now in
    let seat = c.in-Some.seat.now in
    let has = read.map_seat w self c.args.sort row seat c.requires.in_step c.requires.row
    c.requires.values
    (sym (ap (λ r. seat_seen w row.key.0 (option_copied r)) c.in-Some.is) ∙ c.seat.ensures) in
    let fits : FitsSigned w64 c.int.result = search rules in
    IfOk-weaker c.int_text.result _ _
    (λ text is. read.int_told w self c.args.sort row seat c.requires.in_step has c.args.id
    c.requires.live c.in-Ints.is c.int.result c.int.ensures
    ∙ ap Some (sym (is ∙ ap signed_decimal (to_z-of_z w64 c.int.result fits))))
    c.int_text.ensures

pub bool-requires-clause-form : goal.bool-requires-clause-form
bool-requires-clause-form g c =
    let w = (watch-value g.row.B g.B.Observer g.B.Observer-dict g.B.Destruct-dict).it in
    let self = c.args.self.now in
    let row = c.args.row.now in
    let seat = c.in-Some.seat.now in
    let has = read.map_seat w self c.args.sort row seat c.requires.in_step c.requires.row
    c.requires.values
    (sym (ap (λ r. seat_seen w row.key.0 (option_copied r)) c.in-Some.is) ∙ c.seat.ensures) in
    read.bools_form w self c.args.sort row seat c.requires.in_step has c.args.id c.requires.live
    c.in-Bools.is

pub bool-requires-clause-live : goal.bool-requires-clause-live
bool-requires-clause-live g c =
    let w = (watch-value g.row.B g.B.Observer g.B.Observer-dict g.B.Destruct-dict).it in
    let self = c.args.self.now in
    let row = c.args.row.now in
    let seat = c.in-Some.seat.now in
    let has = read.map_seat w self c.args.sort row seat c.requires.in_step c.requires.row
    c.requires.values
    (sym (ap (λ r. seat_seen w row.key.0 (option_copied r)) c.in-Some.is) ∙ c.seat.ensures) in
    read.bool_live w self c.args.sort row seat c.requires.in_step has c.args.id c.requires.live
    c.in-Bools.is

pub returns-in-Bools : goal.returns-in-Bools
returns-in-Bools g c =
    let w = (watch-value g.row.B g.B.Observer g.B.Observer-dict g.B.Destruct-dict).it in
    let self = c.args.self.now in
    let row = c.args.row.now in
    let seat = c.in-Some.seat.now in
    let has = read.map_seat w self c.args.sort row seat c.requires.in_step c.requires.row
    c.requires.values
    (sym (ap (λ r. seat_seen w row.key.0 (option_copied r)) c.in-Some.is) ∙ c.seat.ensures) in
    IfOk-weaker c.told_bool.result _ _
    (λ text is. read.bool_told w self c.args.sort row seat c.requires.in_step has c.args.id
    c.requires.live c.in-Bools.is c.bool.result c.bool.ensures ∙ ap Some (sym is))
    c.told_bool.ensures

pub text-requires-clause-form : goal.text-requires-clause-form
text-requires-clause-form g c =
    let w = (watch-value g.row.B g.B.Observer g.B.Observer-dict g.B.Destruct-dict).it in
    let self = c.args.self.now in
    let row = c.args.row.now in
    let seat = c.in-Some.seat.now in
    let has = read.map_seat w self c.args.sort row seat c.requires.in_step c.requires.row
    c.requires.values
    (sym (ap (λ r. seat_seen w row.key.0 (option_copied r)) c.in-Some.is) ∙ c.seat.ensures) in
    read.texts_form w self c.args.sort row seat c.requires.in_step has c.args.id c.requires.live
    c.in-Texts.is

pub text-requires-clause-live : goal.text-requires-clause-live
text-requires-clause-live g c =
    let w = (watch-value g.row.B g.B.Observer g.B.Observer-dict g.B.Destruct-dict).it in
    let self = c.args.self.now in
    let row = c.args.row.now in
    let seat = c.in-Some.seat.now in
    let has = read.map_seat w self c.args.sort row seat c.requires.in_step c.requires.row
    c.requires.values
    (sym (ap (λ r. seat_seen w row.key.0 (option_copied r)) c.in-Some.is) ∙ c.seat.ensures) in
    read.text_live w self c.args.sort row seat c.requires.in_step has c.args.id c.requires.live
    c.in-Texts.is

pub returns-in-Texts : goal.returns-in-Texts
returns-in-Texts g c =
    let w = (watch-value g.row.B g.B.Observer g.B.Observer-dict g.B.Destruct-dict).it in
    let self = c.args.self.now in
    let row = c.args.row.now in
    let seat = c.in-Some.seat.now in
    let has = read.map_seat w self c.args.sort row seat c.requires.in_step c.requires.row
    c.requires.values
    (sym (ap (λ r. seat_seen w row.key.0 (option_copied r)) c.in-Some.is) ∙ c.seat.ensures) in
    IfOk-weaker c.copy_text.result _ _
    (λ text is. read.text_told w self c.args.sort row seat c.requires.in_step has c.args.id
    c.requires.live c.in-Texts.is c.text.result.now c.text.ensures
    ∙ ap Some (sym (is ∙ c.as_bytes.ensures)))
    c.copy_text.ensures
