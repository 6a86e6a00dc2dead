use Rattle.std.proofs.Common.{◌≡◌, sym, ap, subst}
use Rattle.observe_core.specs.Changes.{told, CanTell}
use Rattle.notify_chain.specs.Seats.{seats, seats_of, Became, AllSeats}
use Rattle.notify_chain.proofs.SeatLemmas.{between_each, all_below, on_ok, on_err}
use Rattle.notify_chain.proofs.chain.Chain.announce.Goals as goal

pub tell_all-requires-clause-can : goal.tell_all-requires-clause-can
tell_all-requires-clause-can g c =
    let b = g.O.Observer in
    let s : seats_of b.watch c.self.inside.slab c.self.inside.order.items
    ≡ seats b.watch c.args.self.now = ap (seats b.watch) c.self.view_is in
    let can : AllSeats (λ s. CanTell c.args.change.now s.seen)
    (seats_of b.watch c.self.inside.slab c.self.inside.order.items) =
    subst (AllSeats (λ s. CanTell c.args.change.now s.seen)) (sym s) c.requires in
    rw c.deref.ensures.value
    (all_below b.watch (λ s. CanTell c.args.change.now s.seen) c.self.inside.slab
    c.self.inside.order.items can)

pub returns-clause-ok : goal.returns-clause-ok
returns-clause-ok g c =
    let b = g.O.Observer in
    let s : seats_of b.watch c.self.inside.slab c.self.inside.order.items
    ≡ seats b.watch c.args.self.now = ap (seats b.watch) c.self.view_is in
    rw (← c.self.view_is)
    (on_ok c.tell_all.result
    (λ h. between_each b.watch (Became (told c.args.change.now)) c.self.inside.slab
    c.tell_all.new.slab c.self.inside.order.items (rw (← c.deref.ensures.value) h))
    c.tell_all.ensures.ok)

pub returns-clause-err : goal.returns-clause-err
returns-clause-err g c =
    let b = g.O.Observer in
    rw (← c.self.view_is)
    (on_err c.tell_all.result
    (λ h. between_each b.watch (Became (λ s. s)) c.self.inside.slab c.tell_all.new.slab
    c.self.inside.order.items (rw (← c.deref.ensures.value) h)) c.tell_all.ensures.err)
