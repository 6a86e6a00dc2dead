use Rattle.std.proofs.Common.{true, false, sym, subst, ◌∙◌}
use Rattle.desk_seats.specs.contracts.seat.SeatObserver.TheImpl.{watch-value}
use Rattle.desk_world.specs.Faults.{Is}
use Rattle.desk_world.proofs.ViewCommands.{row_there}
use Rattle.desk_world.proofs.view_demands.World+Seat+B.ask_view.Goals as goal

pub returns-then-has : goal.returns-then-has
returns-then-has g c =
    let w = (watch-value g.row.B g.B.Observer g.B.Observer-dict g.B.Destruct-dict).it in
    row_there w c.args.self.now c.args.view.now (sym c.is_base.ensures ∙ c.if-is_base.false) true
    (sym c.has.ensures ∙ c.if-has.true)

pub returns : goal.returns
returns g c =
    let w = (watch-value g.row.B g.B.Observer g.B.Observer-dict g.B.Destruct-dict).it in
    subst (λ o. Is o c.unknown.result)
    (sym (row_there w c.args.self.now c.args.view.now (sym c.is_base.ensures ∙ c.if-is_base.false)
    false (sym c.has.ensures ∙ c.if-has.false)))
    c.unknown.ensures
