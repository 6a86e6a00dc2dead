use Rattle.std.proofs.Common.{◌≡◌, sym, ap, ◌∙◌, length, refl}
use Rattle.observe_core.specs.Held.{Held, Nothing, Values, Degree, Half, Kept, Ties}
use Rattle.alter_graph.specs.Chains.{chains_seen, seats_in}
use Rattle.alter_graph.specs.Snaps.{IsHalf, added_of, half_of}
use Rattle.alter_graph.proofs.Snapping.{held_found, held_missing}
use Rattle.desk_world.proofs.snapshots.added_since.Goals as goal

none_added : (h : Held) → (IsHalf h → ⊥) → 0 ≡ length (added_of h)
none_added Nothing none = refl
none_added (Values t es) none = refl
none_added (Degree out ends) none = refl
none_added (Half added others kept valid) none = absurd (none tt)
none_added (Kept role all items) none = refl
none_added (Ties ties) none = refl

pub returns-in-Some-half : goal.returns-in-Some-half
returns-in-Some-half g c =
    let ss = seats_in c.args.sort (chains_seen g.O.Observer.watch c.args.graph.now.chains) in
    let o = g.O.Observer.watch c.in-Some.seat.now in
    c.added_count.ensures
    ∙ ap (λ h. length (added_of h)) (ap half_of c.in-Some-half.ensures.some
    ∙ sym (held_found c.args.key.0 ss
    (record { key = c.args.key.0; seen = o.seen; room = o.room; reach = o.reach })
    (sym c.in-Some.ensures)))

pub returns-in-None-half : goal.returns-in-None-half
returns-in-None-half g c =
    let ss = seats_in c.args.sort (chains_seen g.O.Observer.watch c.args.graph.now.chains) in
    let o = g.O.Observer.watch c.in-Some.seat.now in
    none_added (half_of o.seen) c.in-None-half.ensures.none
    ∙ ap (λ h. length (added_of h)) (sym (held_found c.args.key.0 ss
    (record { key = c.args.key.0; seen = o.seen; room = o.room; reach = o.reach })
    (sym c.in-Some.ensures)))

pub returns-in-None : goal.returns-in-None
returns-in-None g c =
    ap (λ h. length (added_of h)) (sym (held_missing c.args.key.0
    (seats_in c.args.sort (chains_seen g.O.Observer.watch c.args.graph.now.chains))
    (sym c.in-None.ensures)))
