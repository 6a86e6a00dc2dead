use Rattle.std.proofs.Common.{sym, subst}
use Rattle.observe_core.specs.Losses.{CanLose}
use Rattle.notify_chain.specs.Seats.{seats, AllSeats}
use Rattle.notify_chain.proofs.chain.Chain.lose.Goals as goal

pub lose_all-requires-clause-can : goal.lose_all-requires-clause-can
lose_all-requires-clause-can g c =
    let b = g.O.Observer in
    subst (λ v. AllSeats (λ s. CanLose c.args.loss.now s.seen) (seats b.watch v))
    (sym c.self.view_is) c.requires

pub returns-clause-stay : goal.returns-clause-stay
returns-clause-stay g c = rw (← c.self.view_is) c.lose_all.ensures.lost

pub returns-clause-left : goal.returns-clause-left
returns-clause-left g c = rw (← c.self.view_is) c.lose_all.ensures.left
