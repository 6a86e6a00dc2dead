use Rattle.std.proofs.Common.{◌≡◌, true, sym, ap, ◌∙◌, subst}
use Rattle.std.specs.Prelude.{IfOk, IfErr, OnOk}
use Rattle.report_text.specs.declared.faults.Fault.TheVariants as faults
use Rattle.plain_world.specs.Refusals.{unless}
use Rattle.plain_world.specs.Values.{spells}
use Rattle.plain_world.specs.World.{label_of}
use Rattle.desk_seats.specs.contracts.seat.SeatObserver.TheImpl.{watch-value}
use Rattle.desk_world.specs.Faults.{Is}
use Rattle.desk_world.specs.Plain.{plain_of, look_of, map_seen}
use Rattle.desk_world.specs.Values.{Spells}
use Rattle.desk_world.proofs.RetypeSteps.{told_text}
use Rattle.desk_world.proofs.retyping.World+Seat+B.value_as.Goals as goal

pub returns-clause-spells : goal.returns-clause-spells
returns-clause-spells g c =
    let w = (watch-value g.row.B g.B.Observer g.B.Observer-dict g.B.Destruct-dict).it in
    let shown = map_seen (look_of w c.args.self.now) c.args.sort c.args.row.now in
    subst (λ text. OnOk c.read_value.result (spells c.args.kind text ≡ true))
    (sym (told_text shown c.args.id c.in_ok-text.text c.in_ok-text.ensures))
    c.read_value.ensures.spells

pub returns-clause-value : goal.returns-clause-value
returns-clause-value g c =
    let w = (watch-value g.row.B g.B.Observer g.B.Observer-dict g.B.Destruct-dict).it in
    let shown = map_seen (look_of w c.args.self.now) c.args.sort c.args.row.now in
    subst (λ text. IfOk c.read_value.result (λ value. Spells text value))
    (sym (told_text shown c.args.id c.in_ok-text.text c.in_ok-text.ensures))
    c.read_value.ensures.value

pub returns-clause-refused : goal.returns-clause-refused
returns-clause-refused g c =
    let w = (watch-value g.row.B g.B.Observer g.B.Observer-dict g.B.Destruct-dict).it in
    let shown = map_seen (look_of w c.args.self.now) c.args.sort c.args.row.now in
    let label = label_of (plain_of w c.args.self.now) c.args.sort c.args.id in
    subst (λ text. IfErr c.read_value.result
    (Is (unless (spells c.args.kind text) (faults.BadValue label text))))
    (sym (told_text shown c.args.id c.in_ok-text.text c.in_ok-text.ensures))
    (subst (λ label. IfErr c.read_value.result
    (Is (unless (spells c.args.kind c.in_ok-text.text)
    (faults.BadValue label c.in_ok-text.text)))) c.label_of.ensures
    c.read_value.ensures.refused)
