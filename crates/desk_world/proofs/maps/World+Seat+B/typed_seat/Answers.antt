use Rattle.std.proofs.Common.{ap, sym, subst, ◌∙◌}
use Rattle.std.specs.Option.{option_copied}
use Rattle.notify_chain.specs.Seats.{seat_seen}
use Rattle.plain_world.specs.Tables.{entry}
use Rattle.desk_seats.specs.contracts.seat.SeatObserver.TheImpl.{watch-value}
use Rattle.desk_world.specs.declared.tables.ItemTables.{ItemTables}
use Rattle.desk_world.specs.Faults.{Is}
use Rattle.desk_world.proofs.SeatsAsked.{untyped, typed_by, typed_seated, typed_held}
use Rattle.desk_world.proofs.maps.World+Seat+B.typed_seat.Goals as goal

pub returns-in_default-clause-meets : goal.returns-in_default-clause-meets
returns-in_default-clause-meets g c =
    let w = (watch-value g.row.B g.B.Observer g.B.Observer-dict g.B.Destruct-dict).it in
    let name = c.args.name.now in
    let found = sym (ap (λ (t : ItemTables). entry t.maps.rows name) c.tables.ensures)
    ∙ sym c.get.ensures.found ∙ ap option_copied c.in_default.is in
    subst (λ o. Is o c.wrong_type.result)
    (sym (untyped w c.args.self.now c.requires.seats c.args.sort name c.args.kind found))
    c.wrong_type.ensures

pub returns-then-not-is_of_type-clause-meets : goal.returns-then-not-is_of_type-clause-meets
returns-then-not-is_of_type-clause-meets g c =
    let w = (watch-value g.row.B g.B.Observer g.B.Observer-dict g.B.Destruct-dict).it in
    let name = c.args.name.now in
    let found = sym (ap (λ (t : ItemTables). entry t.maps.rows name) c.tables.ensures)
    ∙ sym c.get.ensures.found ∙ ap option_copied c.in-Some.is in
    subst (λ o. Is o c.wrong_type-then-not-is_of_type.result)
    (sym (typed_by w c.args.self.now c.requires.seats c.args.sort name c.in-Some.row.now found
    c.args.kind _ (sym c.is_of_type.ensures ∙ c.if-not-is_of_type.true)))
    c.wrong_type-then-not-is_of_type.ensures

pub unreachable-requires : goal.unreachable-requires
unreachable-requires g c =
    let w = (watch-value g.row.B g.B.Observer g.B.Observer-dict g.B.Destruct-dict).it in
    let name = c.args.name.now in
    let row = c.in-Some.row.now in
    let found = sym (ap (λ (t : ItemTables). entry t.maps.rows name) c.tables.ensures)
    ∙ sym c.get.ensures.found ∙ ap option_copied c.in-Some.is in
    typed_seated w c.args.self.now c.requires.seats c.args.sort name row found c.args.kind
    (sym c.is_of_type.ensures ∙ c.if-not-is_of_type.false)
    (sym (ap (λ r. seat_seen w row.key.0 (option_copied r)) c.in-None.is) ∙ c.seat.ensures)

pub returns-clause-meets : goal.returns-clause-meets
returns-clause-meets g c =
    let w = (watch-value g.row.B g.B.Observer g.B.Observer-dict g.B.Destruct-dict).it in
    let name = c.args.name.now in
    let found = sym (ap (λ (t : ItemTables). entry t.maps.rows name) c.tables.ensures)
    ∙ sym c.get.ensures.found ∙ ap option_copied c.in-Some.is in
    typed_by w c.args.self.now c.requires.seats c.args.sort name c.in-Some.row.now found
    c.args.kind _ (sym c.is_of_type.ensures ∙ c.if-not-is_of_type.false)

pub returns-clause-has : goal.returns-clause-has
returns-clause-has g c =
    let w = (watch-value g.row.B g.B.Observer g.B.Observer-dict g.B.Destruct-dict).it in
    let name = c.args.name.now in
    let row = c.in-Some.row.now in
    let found = sym (ap (λ (t : ItemTables). entry t.maps.rows name) c.tables.ensures)
    ∙ sym c.get.ensures.found ∙ ap option_copied c.in-Some.is in
    typed_held w c.args.self.now c.requires.seats c.args.sort name row found c.args.kind
    (sym c.is_of_type.ensures ∙ c.if-not-is_of_type.false) c.in-Some-seat.seat.now
    (sym (ap (λ r. seat_seen w row.key.0 (option_copied r)) c.in-Some-seat.is) ∙ c.seat.ensures)
