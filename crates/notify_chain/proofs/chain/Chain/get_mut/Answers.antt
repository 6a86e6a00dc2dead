use Rattle.std.proofs.Common.{◌≡◌, sym, ap, ◌∙◌, inr, refl, None}
use Rattle.notify_chain.specs.Seats.{seats, seat_seen, find_seat}
use Rattle.notify_chain.proofs.SeatLemmas.{find-kept, is_none_of, seats-lent_any}
use Rattle.slab.specs.Slab.{get}
use Rattle.notify_chain.proofs.chain.Chain.get_mut.Goals as goal

pub returns-then-not-contains : goal.returns-then-not-contains
returns-then-not-contains g c =
    let b = g.O.Observer in
    let n : get c.self.inside.slab c.args.key.0 ≡ None =
    is_none_of (get c.self.inside.slab c.args.key.0)
    (λ h. let t = c.contains.ensures.1 h in cc) in (
      ap inr c.self.view_is,
      record {
        writes_back = tt;
        value = ap (seat_seen b.watch c.args.key.0) (sym n)
            ∙ find-kept b.watch c.self.inside.slab c.args.key.0 c.self.inside.order.items
            c.self.invariant.0 ∙ ap (λ v. find_seat c.args.key.0 (seats b.watch v)) c.self.view_is;
        puts = tt;
      },
    )

pub returns : goal.returns
returns g c =
    let b = g.O.Observer in
    let i = c.self.inside in
    rw (← c.self.view_is) (
      refl,
      record {
        writes_back = tt;
        value = ap (seat_seen b.watch c.args.key.0) c.get_mut.ensures.value
            ∙ find-kept b.watch i.slab c.args.key.0 i.order.items c.self.invariant.0;
        puts = seats-lent_any b.watch i.slab i.order.items c.args.key.0 c.self.invariant.0
            c.get_mut.result c.get_mut.ensures.value;
      },
    )
