use Rattle.std.proofs.Common.{ap, ◌∙◌}
use Rattle.notify_chain.specs.Seats.{seats, seat_seen, find_seat}
use Rattle.notify_chain.proofs.SeatLemmas.{find-kept}
use Rattle.notify_chain.proofs.chain.Chain.get.Goals as goal

pub returns : goal.returns
returns g c =
    let b = g.O.Observer in
    ap (seat_seen b.watch c.args.key.0) c.get.ensures
    ∙ find-kept b.watch c.self.inside.slab c.args.key.0 c.self.inside.order.items
    c.self.invariant.0 ∙ ap (λ v. find_seat c.args.key.0 (seats b.watch v)) c.self.view_is
