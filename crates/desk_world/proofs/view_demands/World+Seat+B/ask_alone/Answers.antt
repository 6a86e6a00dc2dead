use Rattle.std.proofs.Common.{Some, None, sym, ap, subst, ◌∙◌}
use Rattle.std.specs.Option.{option_copied}
use Rattle.desk_seats.specs.contracts.seat.SeatObserver.TheImpl.{watch-value}
use Rattle.desk_world.specs.Faults.{Is}
use Rattle.desk_world.proofs.ViewCommands.{stands_on}
use Rattle.desk_world.proofs.view_demands.World+Seat+B.ask_alone.Goals as goal

pub returns-in-Some : goal.returns-in-Some
returns-in-Some g c =
    let w = (watch-value g.row.B g.B.Observer g.B.Observer-dict g.B.Destruct-dict).it in
    subst (λ o. Is o c.in_use.result)
    (sym (stands_on w c.args.self.now c.args.view.now (Some c.in-Some.other.now)
    (sym (ap option_copied c.in-Some.is) ∙ c.standing_on.ensures)))
    c.in_use.ensures

pub returns-in-None : goal.returns-in-None
returns-in-None g c =
    let w = (watch-value g.row.B g.B.Observer g.B.Observer-dict g.B.Destruct-dict).it in
    stands_on w c.args.self.now c.args.view.now None
    (sym (ap option_copied c.in-None.is) ∙ c.standing_on.ensures)
