use Rattle.std.proofs.Common.{pos, subst}
use Rattle.std.specs.Option.{option_map}
use Rattle.plain_certificates.specs.Tables.{at}
use Rattle.static_digraph.specs.Fixed.{graph_of}
use Rattle.task_bounds.specs.Answers.{IsFree}
use Rattle.flow_mincost.proofs.Endings.{sent_kept}
use Rattle.flow_mincost.specs.Prices.{Cancelled, Lowered}
use Rattle.flow_mincost.specs.Pushing.{Keeps}
use Rattle.flow_mincost.proofs.answer.settle.Goals as goal

pub returns-in-Cycle : goal.returns-in-Cycle
returns-in-Cycle c =
    let g = graph_of c.args.g.now in
    let plan = c.args.plan.now in
    let cost = at (pos 0) c.args.cost.now in
    let new = c.cancel.new.sent in
    let keeps : Keeps g plan.caps.items c.args.sent.now new =
    subst (λ xs. Keeps g xs c.args.sent.now new) c.deref.ensures.value
    c.in_ok-cycle.ensures.keeps in
    let free : IsFree g (at 0 plan.caps.items) cost c.in-Cycle.cycle.items =
    subst (λ found. Cancelled g (at 0 plan.caps.items) cost (at 0 new) found) c.in-Cycle.is
    (subst (λ xs. Cancelled g (at 0 xs) cost (at 0 new) c.in_ok-cycle.field-0)
    c.deref.ensures.value c.in_ok-cycle.ensures.ends) in
    λ bounds task. c.freed.ensures g bounds task
    (sent_kept g plan c.args.sent.now new c.requires.sent keeps) free

pub returns-in-Some : goal.returns-in-Some
returns-in-Some c =
    let g = graph_of c.args.g.now in
    let plan = c.args.plan.now in
    let cost = at (pos 0) c.args.cost.now in
    let mid = c.cancel.new.sent in
    let new = c.lower.new.sent in
    let first : Keeps g plan.caps.items c.args.sent.now mid =
    subst (λ xs. Keeps g xs c.args.sent.now mid) c.deref.ensures.value
    c.in_ok-cycle.ensures.keeps in
    let next : Keeps g plan.caps.items mid new =
    subst (λ xs. Keeps g xs mid new) c.deref-in-Potential.ensures.value
    c.in_ok-cycle-in-Potential.ensures.keeps in
    let free : IsFree g (at 0 plan.caps.items) cost c.in-Some.cycle.items =
    subst (λ found. Lowered g (at 0 plan.caps.items) cost (at 0 new)
    (option_map (λ cycle. cycle.items) found)) c.in-Some.is
    (subst (λ xs. Lowered g (at 0 xs) cost (at 0 new)
    (option_map (λ cycle. cycle.items) c.in_ok-cycle-in-Potential.field-0))
    c.deref-in-Potential.ensures.value c.in_ok-cycle-in-Potential.ensures.ends) in
    λ bounds task. c.freed-in-Some.ensures g bounds task
    (sent_kept g plan mid new (sent_kept g plan c.args.sent.now mid c.requires.sent first) next)
    free
