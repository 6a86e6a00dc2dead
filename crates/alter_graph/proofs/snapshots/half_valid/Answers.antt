use Rattle.std.proofs.Common.{sym, ap, ◌∙◌}
use Rattle.observe_core.specs.Saved as saved
use Rattle.notify_chain.specs.Seats.{seats}
use Rattle.alter_graph.specs.Snaps.{half_of}
use Rattle.alter_graph.proofs.Snapping.{held_found, held_missing, valid_unless_half}
use Rattle.alter_graph.proofs.snapshots.half_valid.Goals as goal

pub returns-in-Some-half : goal.returns-in-Some-half
returns-in-Some-half g c =
    let ss = seats g.O.Observer.watch c.args.chain.now in
    let o = g.O.Observer.watch c.in-Some.o.now in
    c.valid.ensures
    ∙ ap saved.is_valid (ap half_of c.in-Some-half.ensures.some ∙ sym (held_found c.args.key.0 ss
    (record { key = c.args.key.0; seen = o.seen; room = o.room; reach = o.reach })
    (sym c.in-Some.ensures)))

pub returns-in-None-half : goal.returns-in-None-half
returns-in-None-half g c =
    let ss = seats g.O.Observer.watch c.args.chain.now in
    let o = g.O.Observer.watch c.in-Some.o.now in
    valid_unless_half (half_of o.seen) c.in-None-half.ensures.none
    ∙ ap saved.is_valid (sym (held_found c.args.key.0 ss
    (record { key = c.args.key.0; seen = o.seen; room = o.room; reach = o.reach })
    (sym c.in-Some.ensures)))

pub returns-in-None : goal.returns-in-None
returns-in-None g c =
    ap saved.is_valid (sym (held_missing c.args.key.0 (seats g.O.Observer.watch c.args.chain.now)
    (sym c.in-None.ensures)))
