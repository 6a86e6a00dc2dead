use Rattle.std.proofs.Common.{◌≡◌, ◌∷◌, ◌+◌, ◌-◌, ◌≤◌, ◌^◌, ℕ, List, suc, cond, drop, drop-cons}
use Rattle.std.proofs.Common.{sym, ◌∙◌, ap, subst, arith}
use Rattle.std.proofs.Math.ListN.{set}
use Rattle.plain_certificates.specs.Tables.{at}
use Rattle.pace_search.specs.Paces.{pace_at}
use Rattle.static_digraph.specs.Fixed.{graph_of}
use Rattle.flow_mincost.proofs.Moves.{moving_fits, moving_next}
use Rattle.flow_mincost.specs.Pushing.{IsMoving}
use Rattle.flow_mincost.specs.Rooms.{raises}
use Rattle.flow_mincost.proofs.pushing.push_round.Goals as goal

pub moved-requires : goal.moved-requires
moved-requires c =
    let g = graph_of c.args.g.now in
    let round = c.args.round.now in
    let now = c.loop-i.sent in
    let i = c.loop-i.i in
    let k = at 0 round i in
    let step = c.least_room-step.result in
    let was : IsMoving g c.args.cap.now c.args.ahead step round (k ∷ drop (suc i) round)
    c.args.sent.now now =
    subst (λ rest. IsMoving g c.args.cap.now c.args.ahead step round rest c.args.sent.now now)
    (drop-cons round i 0 c.loop-i-test.true) c.loop-i.invariant in
    let fits = moving_fits g c.args.cap.now c.args.ahead step round (drop (suc i) round)
    c.args.sent.now now k was in
    let arc = c.pace_at-arc.ensures.arc in
    let more = c.raises.ensures (pace_at g k) (sym c.pace_at-arc.ensures.onward) in
    record {
      room = subst (λ b. cond b (at 0 now c.pace_at-arc.result.0 + step ≤ 2 ^ 62)
          (step ≤ at 0 now c.pace_at-arc.result.0)) (sym more)
          (subst (λ a. cond (raises c.args.ahead (pace_at g k)) (at 0 now a + step ≤ 2 ^ 62)
          (step ≤ at 0 now a)) (sym arc) fits);
    }

pub loop-i-preserved : goal.loop-i-preserved
loop-i-preserved c =
    let g = graph_of c.args.g.now in
    let round = c.args.round.now in
    let now = c.loop-i.sent in
    let i = c.loop-i.i in
    let k = at 0 round i in
    let p = pace_at g k in
    let step = c.least_room-step.result in
    let Moving : List ℕ → List ℕ → Type 0 =
    λ rest list. IsMoving g c.args.cap.now c.args.ahead step round rest c.args.sent.now list in
    let was : Moving (k ∷ drop (suc i) round) now =
    subst (λ rest. Moving rest now) (drop-cons round i 0 c.loop-i-test.true) c.loop-i.invariant in
    let arc = c.pace_at-arc.ensures.arc in
    let more = c.raises.ensures p (sym c.pace_at-arc.ensures.onward) in
    let moved = c.moved.ensures
    ∙ (ap (λ b. cond b (at 0 now c.pace_at-arc.result.0 + step)
    (at 0 now c.pace_at-arc.result.0 - step)) more
    ∙ ap (λ a. cond (raises c.args.ahead p) (at 0 now a + step) (at 0 now a - step)) arc) in
    let next = moving_next g c.args.cap.now c.args.ahead step round (drop (suc i) round)
    c.args.sent.now now k c.moved.result was moved in
    let e : i + 1 ≡ suc i = omega arith in
    subst (λ j. Moving (drop j round) (set now c.pace_at-arc.result.0 c.moved.result)) (sym e)
    (subst (λ a. Moving (drop (suc i) round) (set now a c.moved.result)) (sym arc) next)
