use Rattle.std.proofs.Common.{◌≡◌, sym, ap, subst, arith}
use Rattle.observe_core.specs.Changes.{untold, CanUntell}
use Rattle.notify_chain.specs.Seats.{seats, seats_of, Became, AllSeats}
use Rattle.notify_chain.proofs.SeatLemmas.{between_each, all_below}
use Rattle.notify_chain.proofs.chain.Chain.undo.Goals as goal

pub take_back-requires-clause-can : goal.take_back-requires-clause-can
take_back-requires-clause-can g c =
    let b = g.O.Observer in
    let s : seats_of b.watch c.self.inside.slab c.self.inside.order.items
    ≡ seats b.watch c.args.self.now = ap (seats b.watch) c.self.view_is in
    let can : AllSeats (λ s. CanUntell c.args.change.now s.seen s.reach)
    (seats_of b.watch c.self.inside.slab c.self.inside.order.items) =
    subst (AllSeats (λ s. CanUntell c.args.change.now s.seen s.reach)) (sym s) c.requires in
    rw c.deref.ensures.value
    (λ j l. all_below b.watch (λ s. CanUntell c.args.change.now s.seen s.reach)
    c.self.inside.slab c.self.inside.order.items can j (omega arith))

pub returns-clause-untold : goal.returns-clause-untold
returns-clause-untold g c =
    let b = g.O.Observer in
    rw (← c.self.view_is)
    (between_each b.watch (Became (untold c.args.change.now)) c.self.inside.slab
    c.take_back.new.slab c.self.inside.order.items
    (λ j z l. rw (← c.deref.ensures.value) (c.take_back.ensures.untold j z (omega arith))))
