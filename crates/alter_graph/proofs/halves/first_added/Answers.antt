use Rattle.std.proofs.Common.{sym, ap, ◌∙◌}
use Rattle.notify_chain.specs.Seats.{seats}
use Rattle.plain_digraph.specs.Lists.{first}
use Rattle.snap_shots.specs.HalfViews.{added_ids}
use Rattle.alter_graph.specs.Snaps.{half_of, added_of}
use Rattle.alter_graph.proofs.Snapping.{held_found, held_missing}
use Rattle.alter_graph.proofs.KeptWalk.{first_number, none_unless_half}
use Rattle.alter_graph.proofs.halves.first_added.Goals as goal

pub returns-in-Some-half : goal.returns-in-Some-half
returns-in-Some-half g c =
    let ss = seats g.O.Observer.watch c.args.chain.now in
    let o = g.O.Observer.watch c.in-Some.o.now in
    c.next_added.ensures ∙ first_number (added_ids c.in-Some-half.h.now)
    ∙ ap (λ x. first (added_of x))
    (ap half_of c.in-Some-half.ensures.some ∙ sym (held_found c.args.key.0 ss
    (record { key = c.args.key.0; seen = o.seen; room = o.room; reach = o.reach })
    (sym c.in-Some.ensures)))

pub returns-in-None-half : goal.returns-in-None-half
returns-in-None-half g c =
    let ss = seats g.O.Observer.watch c.args.chain.now in
    let o = g.O.Observer.watch c.in-Some.o.now in
    none_unless_half (half_of o.seen) c.in-None-half.ensures.none
    ∙ ap (λ x. first (added_of x)) (sym (held_found c.args.key.0 ss
    (record { key = c.args.key.0; seen = o.seen; room = o.room; reach = o.reach })
    (sym c.in-Some.ensures)))

pub returns-in-None : goal.returns-in-None
returns-in-None g c =
    ap (λ x. first (added_of x))
    (sym (held_missing c.args.key.0 (seats g.O.Observer.watch c.args.chain.now)
    (sym c.in-None.ensures)))
