use Rattle.std.proofs.Common.{ap, sym, subst, ◌∙◌, Some, None}
use Rattle.std.specs.Prelude.{option_map}
use Rattle.std.specs.Option.{option_copied}
use Rattle.plain_world.specs.World as plain
use Rattle.desk_seats.specs.contracts.seat.SeatObserver.TheImpl.{watch-value}
use Rattle.desk_world.specs.Faults.{Is}
use Rattle.desk_world.specs.Plain.{plain_of}
use Rattle.desk_world.proofs.AttributesFound.{attribute_entry, plain_entry, tied_entry}
use Rattle.desk_world.proofs.AttributesFound.{none_told, tied_told, no_label_told, label_told}
use Rattle.desk_world.proofs.attributes.World+Seat+B.item_told.Goals as goal

pub returns-in-None-clause-meets : goal.returns-in-None-clause-meets
returns-in-None-clause-meets g c =
    let w = (watch-value g.row.B g.B.Observer g.B.Observer-dict g.B.Destruct-dict).it in
    let self = c.args.self.now in
    let name = c.args.name.now in
    subst (λ o. Is o c.unknown.result) (sym (none_told (plain_of w self) name c.args.sort
    (attribute_entry w self name c.get.ensures.differ None
    (sym c.get.ensures.found ∙ ap option_copied c.in-None.is)))) c.unknown.ensures

pub returns-in-None-tied_item-clause-meets : goal.returns-in-None-tied_item-clause-meets
returns-in-None-tied_item-clause-meets g c =
    let w = (watch-value g.row.B g.B.Observer g.B.Observer-dict g.B.Destruct-dict).it in
    let self = c.args.self.now in
    let name = c.args.name.now in
    let row = sym c.get.ensures.found ∙ ap option_copied c.in-Some-Tied.is
    ∙ ap Some c.in-Some-Tied.field-0-is in
    let other = c.in-Some-Tied.other in
    let none = tied_entry w self name c.get.ensures.differ other c.in-Some-Tied.number None row
    (c.tied_item.ensures.item ∙ ap (option_map (plain.Tied other)) c.in-None-tied_item.is) in
    subst (λ o. Is o c.unknown-in-None-tied_item.result)
    (sym (none_told (plain_of w self) name c.args.sort none)) c.unknown-in-None-tied_item.ensures

pub returns-in-Some-clause-meets : goal.returns-in-Some-clause-meets
returns-in-Some-clause-meets g c =
    let w = (watch-value g.row.B g.B.Observer g.B.Observer-dict g.B.Destruct-dict).it in
    let self = c.args.self.now in
    let name = c.args.name.now in
    let row = sym c.get.ensures.found ∙ ap option_copied c.in-Some-Tied.is
    ∙ ap Some c.in-Some-Tied.field-0-is in
    let other = c.in-Some-Tied.other in
    let some = tied_entry w self name c.get.ensures.differ other c.in-Some-Tied.number
    (Some c.in-Some.field-0) row
    (c.tied_item.ensures.item ∙ ap (option_map (plain.Tied other)) c.in-Some.is) in
    subst (λ o. Is o c.taken.result)
    (sym (tied_told (plain_of w self) name c.args.sort other c.in-Some.field-0 some))
    c.taken.ensures

pub returns-in-None-item_named-clause-meets : goal.returns-in-None-item_named-clause-meets
returns-in-None-item_named-clause-meets g c =
    let w = (watch-value g.row.B g.B.Observer g.B.Observer-dict g.B.Destruct-dict).it in
    let self = c.args.self.now in
    let name = c.args.name.now in
    let row = sym c.get.ensures.found ∙ ap option_copied c.in-Some-Plain.is
    ∙ ap Some c.in-Some-Plain.field-0-is in
    let text = c.in-Some-Plain.text in
    subst (λ o. Is o c.bad_value.result)
    (sym (no_label_told (plain_of w self) name c.args.sort text
    (plain_entry w self name c.get.ensures.differ text row)
    (sym c.item_named.ensures.named ∙ c.in-None-item_named.is))) c.bad_value.ensures

pub returns-in-Some-item_named-clause-meets : goal.returns-in-Some-item_named-clause-meets
returns-in-Some-item_named-clause-meets g c =
    let w = (watch-value g.row.B g.B.Observer g.B.Observer-dict g.B.Destruct-dict).it in
    let self = c.args.self.now in
    let name = c.args.name.now in
    let row = sym c.get.ensures.found ∙ ap option_copied c.in-Some-Plain.is
    ∙ ap Some c.in-Some-Plain.field-0-is in
    let text = c.in-Some-Plain.text in
    label_told (plain_of w self) name c.args.sort text c.in-Some-item_named.id
    (plain_entry w self name c.get.ensures.differ text row)
    (sym c.item_named.ensures.named ∙ c.in-Some-item_named.is)
