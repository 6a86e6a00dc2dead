use Rattle.std.proofs.Common.{ap, sym, subst, ◌∙◌}
use Rattle.report_text.specs.declared.faults.Fault.TheVariants as faults
use Rattle.plain_world.specs.Tables.{has_entry}
use Rattle.plain_world.specs.Refusals.{unless}
use Rattle.desk_seats.specs.contracts.seat.SeatObserver.TheImpl.{watch-value}
use Rattle.desk_world.specs.declared.tables.ItemTables.{ItemTables}
use Rattle.desk_world.specs.Faults.{Is}
use Rattle.desk_world.proofs.MapsFound.{asked_label, asked_row, asked_none}
use Rattle.desk_world.proofs.maps.World+Seat+B.ask_map.Goals as goal

pub returns-then-is_label : goal.returns-then-is_label
returns-then-is_label g c =
    let w = (watch-value g.row.B g.B.Observer g.B.Observer-dict g.B.Destruct-dict).it in
    let name = c.args.name.now in
    ap (λ b. unless b (faults.Unknown name))
    (asked_label w c.args.self.now c.requires.seats c.args.sort name
    (sym c.is_label.ensures ∙ c.if-is_label.true))

pub returns-then-has : goal.returns-then-has
returns-then-has g c =
    let w = (watch-value g.row.B g.B.Observer g.B.Observer-dict g.B.Destruct-dict).it in
    let name = c.args.name.now in
    ap (λ b. unless b (faults.Unknown name))
    (asked_row w c.args.self.now c.requires.seats c.args.sort name
    (sym (ap (λ (t : ItemTables). has_entry t.maps.rows name) c.tables.ensures)
    ∙ sym c.has.ensures ∙ c.if-has.true))

pub returns : goal.returns
returns g c =
    let w = (watch-value g.row.B g.B.Observer g.B.Observer-dict g.B.Destruct-dict).it in
    let name = c.args.name.now in
    subst (λ b. Is (unless b (faults.Unknown name)) c.unknown.result)
    (sym (asked_none w c.args.self.now c.requires.seats c.args.sort name
    (sym c.is_label.ensures ∙ c.if-is_label.false)
    (sym (ap (λ (t : ItemTables). has_entry t.maps.rows name) c.tables.ensures)
    ∙ sym c.has.ensures ∙ c.if-has.false)))
    c.unknown.ensures
