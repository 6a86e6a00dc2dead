use Rattle.std.proofs.Common.{Some, None, sym, ap, subst, ◌∙◌}
use Rattle.std.specs.Option.{option_copied}
use Rattle.desk_seats.specs.contracts.seat.SeatObserver.TheImpl.{watch-value}
use Rattle.desk_world.specs.Faults.{Is}
use Rattle.desk_world.proofs.MapReaders.{read_by_view, read_by}
use Rattle.desk_world.proofs.readers.World+Seat+B.ask_unread.Goals as goal

pub returns-in-Some : goal.returns-in-Some
returns-in-Some g c =
    let w = (watch-value g.row.B g.B.Observer g.B.Observer-dict g.B.Destruct-dict).it in
    subst (λ o. Is o c.in_use.result)
    (sym (read_by_view w c.args.self.now c.requires.seats c.args.sort c.args.name.now
    c.in-Some.view.now (sym (ap option_copied c.in-Some.is) ∙ c.reading_view.ensures)))
    c.in_use.ensures

pub returns-in-Some-index_of : goal.returns-in-Some-index_of
returns-in-Some-index_of g c =
    let w = (watch-value g.row.B g.B.Observer g.B.Observer-dict g.B.Destruct-dict).it in
    subst (λ o. Is o c.in_use-in-Some-index_of.result)
    (sym (read_by w c.args.self.now c.requires.seats c.args.sort c.args.name.now
    (Some c.in-Some-index_of.index.now)
    (sym (ap option_copied c.in_default.is) ∙ c.reading_view.ensures)
    (sym (ap option_copied c.in-Some-index_of.is) ∙ c.index_of.ensures)))
    c.in_use-in-Some-index_of.ensures

pub returns-in-None : goal.returns-in-None
returns-in-None g c =
    let w = (watch-value g.row.B g.B.Observer g.B.Observer-dict g.B.Destruct-dict).it in
    read_by w c.args.self.now c.requires.seats c.args.sort c.args.name.now None
    (sym (ap option_copied c.in_default.is) ∙ c.reading_view.ensures)
    (sym (ap option_copied c.in-None.is) ∙ c.index_of.ensures)
