use Rattle.std.proofs.Common.{Result, Ok, Err, IfOk, map, sym, ap, ◌∙◌}
use Rattle.notify_chain.specs.Seats.{seats}
use Rattle.plain_digraph.specs.PlainSteps.{PlaceBack}
use Rattle.alter_graph.specs.Snaps.{half_of, kept_of}
use Rattle.alter_graph.specs.Steps.{plain_steps}
use Rattle.alter_graph.proofs.Snapping.{held_found, held_missing}
use Rattle.alter_graph.proofs.KeptWalk.{keeps_none}
use Rattle.alter_graph.proofs.halves.kept_places.Goals as goal

if_ok : {T E : Type 0} {P Q : T → Type 0} (r : Result T E) → ((x : T) → P x → Q x) → IfOk r P
    → IfOk r Q
if_ok (Ok x) f h = f x h
if_ok (Err e) f h = tt

pub returns-in-Some-half : goal.returns-in-Some-half
returns-in-Some-half g c =
    let ss = seats g.O.Observer.watch c.args.chain.now in
    let o = g.O.Observer.watch c.in-Some.o.now in
    if_ok c.gather.result (λ x h. h ∙ ap (λ x. map PlaceBack (kept_of x))
    (ap half_of c.in-Some-half.ensures.some ∙ sym (held_found c.args.key.0 ss
    (record { key = c.args.key.0; seen = o.seen; room = o.room; reach = o.reach })
    (sym c.in-Some.ensures)))) c.gather.ensures

pub returns-in-None-half : goal.returns-in-None-half
returns-in-None-half g c =
    let ss = seats g.O.Observer.watch c.args.chain.now in
    let o = g.O.Observer.watch c.in-Some.o.now in
    ap plain_steps c.new.ensures.items
    ∙ ap (map PlaceBack) (keeps_none (half_of o.seen) c.in-None-half.ensures.none
    ∙ ap kept_of (sym (held_found c.args.key.0 ss
    (record { key = c.args.key.0; seen = o.seen; room = o.room; reach = o.reach })
    (sym c.in-Some.ensures))))

pub returns-in-None : goal.returns-in-None
returns-in-None g c =
    ap plain_steps c.new-in-None.ensures.items
    ∙ ap (λ x. map PlaceBack (kept_of x))
    (sym (held_missing c.args.key.0 (seats g.O.Observer.watch c.args.chain.now)
    (sym c.in-None.ensures)))
