use Rattle.std.proofs.Common.{ap, sym, subst, ◌∙◌, Some, None, false}
use Rattle.std.specs.Prelude.{option_map}
use Rattle.std.specs.Option.{option_copied, option_map_or}
use Rattle.report_text.specs.declared.faults.Fault.TheVariants as faults
use Rattle.plain_world.specs.Demands.{is_tied}
use Rattle.plain_world.specs.Refusals.{unless}
use Rattle.plain_world.specs.World as plain
use Rattle.desk_seats.specs.contracts.seat.SeatObserver.TheImpl.{watch-value}
use Rattle.desk_world.specs.Faults.{Is}
use Rattle.desk_world.proofs.AttributesFound.{attribute_entry, plain_entry, tied_entry}
use Rattle.desk_world.proofs.attributes.World+Seat+B.tied_label.Goals as goal

pub returns-in-None-clause-meets : goal.returns-in-None-clause-meets
returns-in-None-clause-meets g c =
    let w = (watch-value g.row.B g.B.Observer g.B.Observer-dict g.B.Destruct-dict).it in
    let self = c.args.self.now in
    let name = c.args.name.now in
    subst (λ o. Is (unless (option_map_or is_tied o false) (faults.Unknown name)) c.unknown.result)
    (sym (attribute_entry w self name c.get.ensures.differ None
    (sym c.get.ensures.found ∙ ap option_copied c.in-None.is))) c.unknown.ensures

pub returns-in-Some-Plain-clause-meets : goal.returns-in-Some-Plain-clause-meets
returns-in-Some-Plain-clause-meets g c =
    let w = (watch-value g.row.B g.B.Observer g.B.Observer-dict g.B.Destruct-dict).it in
    let self = c.args.self.now in
    let name = c.args.name.now in
    let row = sym c.get.ensures.found ∙ ap option_copied c.in-Some-Plain.is
    ∙ ap Some c.in-Some-Plain.field-0-is in
    subst (λ o. Is (unless (option_map_or is_tied o false) (faults.Unknown name))
    c.unknown-in-Some-Plain.result)
    (sym (plain_entry w self name c.get.ensures.differ c.in-Some-Plain.field-0-0 row))
    c.unknown-in-Some-Plain.ensures

pub returns-in-None-tied_item-clause-meets : goal.returns-in-None-tied_item-clause-meets
returns-in-None-tied_item-clause-meets g c =
    let w = (watch-value g.row.B g.B.Observer g.B.Observer-dict g.B.Destruct-dict).it in
    let self = c.args.self.now in
    let name = c.args.name.now in
    let row = sym c.get.ensures.found ∙ ap option_copied c.in-Some-Tied.is
    ∙ ap Some c.in-Some-Tied.field-0-is in
    let sort = c.in-Some-Tied.sort in
    subst (λ o. Is (unless (option_map_or is_tied o false) (faults.Unknown name))
    c.unknown-in-None-tied_item.result)
    (sym (tied_entry w self name c.get.ensures.differ sort c.in-Some-Tied.number None row
    (c.tied_item.ensures.item ∙ ap (option_map (plain.Tied sort)) c.in-None-tied_item.is)))
    c.unknown-in-None-tied_item.ensures

pub returns-in_ok-copy_text-in-Some-clause-meets :
    goal.returns-in_ok-copy_text-in-Some-clause-meets
returns-in_ok-copy_text-in-Some-clause-meets g c =
    let w = (watch-value g.row.B g.B.Observer g.B.Observer-dict g.B.Destruct-dict).it in
    let self = c.args.self.now in
    let name = c.args.name.now in
    let row = sym c.get.ensures.found ∙ ap option_copied c.in-Some-Tied.is
    ∙ ap Some c.in-Some-Tied.field-0-is in
    let sort = c.in-Some-Tied.sort in
    ap (λ o. unless (option_map_or is_tied o false) (faults.Unknown name))
    (tied_entry w self name c.get.ensures.differ sort c.in-Some-Tied.number (Some c.in-Some.id) row
    (c.tied_item.ensures.item ∙ ap (option_map (plain.Tied sort)) c.in-Some.is))

pub returns-in_ok-copy_text-in-Some-clause-label :
    goal.returns-in_ok-copy_text-in-Some-clause-label
returns-in_ok-copy_text-in-Some-clause-label g c =
    let w = (watch-value g.row.B g.B.Observer g.B.Observer-dict g.B.Destruct-dict).it in
    let self = c.args.self.now in
    let name = c.args.name.now in
    let row = sym c.get.ensures.found ∙ ap option_copied c.in-Some-Tied.is
    ∙ ap Some c.in-Some-Tied.field-0-is in
    let sort = c.in-Some-Tied.sort in
    record {
      sort = sort;
      id = c.in-Some.id;
      tied = tied_entry w self name c.get.ensures.differ sort c.in-Some-Tied.number
          (Some c.in-Some.id) row
          (c.tied_item.ensures.item ∙ ap (option_map (plain.Tied sort)) c.in-Some.is);
      label_is = c.in_ok-copy_text-in-Some.ensures ∙ c.as_bytes.ensures ∙ c.label_of.ensures;
    }
