use Rattle.std.proofs.Common.{sym, subst}
use Rattle.desk_seats.specs.contracts.seat.SeatObserver.TheImpl.{watch-value}
use Rattle.desk_world.specs.Faults.{Is}
use Rattle.desk_world.specs.Vetoes.{AreRefused}
use Rattle.desk_world.proofs.VetoesTold.{has_row, told}
use Rattle.desk_world.proofs.vetoes.World+Seat+B.refusal.Goals as goal

pub guard_name-requires : goal.guard_name-requires
guard_name-requires g c =
    let w = (watch-value g.row.B g.B.Observer g.B.Observer-dict g.B.Destruct-dict).it in
    let self = c.args.self.now in
    has_row w self c.requires.in_step c.requires.refused.0 c.in-Vetoed.sort c.in-Vetoed.key
    (subst (λ fault. AreRefused w self fault c.requires.refused.0) c.in-Vetoed.is
    c.requires.refused.1)

pub returns-in-Vetoed : goal.returns-in-Vetoed
returns-in-Vetoed g c = λ steps are.
    let w = (watch-value g.row.B g.B.Observer g.B.Observer-dict g.B.Destruct-dict).it in
    let self = c.args.self.now in
    subst (λ fault. Is fault c.vetoed.result)
    (sym (told w self c.requires.in_step steps c.in-Vetoed.sort c.in-Vetoed.key
    c.guard_name.result.now (subst (λ fault. AreRefused w self fault steps) c.in-Vetoed.is are)
    c.guard_name.ensures))
    c.vetoed.ensures
