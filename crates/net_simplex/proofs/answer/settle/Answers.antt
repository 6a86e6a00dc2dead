use Rattle.std.proofs.Common.{◌≤◌, ◌<◌, ◌^◌, ℕ, length, pos, sym, ap, subst}
use Rattle.std.proofs.Common.{FitsSigned, arith, rules}
use Rattle.std.specs.Int.{w128}
use Rattle.std.proofs.lemmas.Int.{to_z-of_z}
use Rattle.pivot_flow.proofs.Pricing.{price_small}
use Rattle.pivot_flow.specs.Tree.{task_of, tree_of}
use Rattle.plain_certificates.specs.Tables.{at}
use Rattle.static_digraph.specs.Fixed.{graph_of}
use Rattle.net_simplex.proofs.Answered.{is_best}
use Rattle.net_simplex.proofs.Settled.{sent_most, short_found, short_none, weighed_by}
use Rattle.task_bounds.specs.Given.{IsValue}
use Rattle.net_simplex.specs.Network.{IsNetwork}
use Rattle.net_simplex.proofs.answer.settle.Goals as goal

pub first_positive-requires : goal.first_positive-requires
first_positive-requires c =
    let sent = ap length c.deref.ensures.value in
    let all = c.requires.solved.sent_all in
    let count = c.arc_count.ensures.count in
    omega (arith, sent, all, count)

pub barred-requires-clause-node : goal.barred-requires-clause-node
barred-requires-clause-node c =
    (short_found (graph_of c.args.g.now) c.arc_count.result c.args.solved.now.flow.sent.items
    c.deref.result.now c.first_positive.result c.in-Some.v c.in-Some.is c.arc_count.ensures.count
    c.deref.ensures.value c.requires.solved.sent_all c.first_positive.ensures.found).0

pub barred-requires-clause-short : goal.barred-requires-clause-short
barred-requires-clause-short c =
    (short_found (graph_of c.args.g.now) c.arc_count.result c.args.solved.now.flow.sent.items
    c.deref.result.now c.first_positive.result c.in-Some.v c.in-Some.is c.arc_count.ensures.count
    c.deref.ensures.value c.requires.solved.sent_all c.first_positive.ensures.found).1

pub returns-in-Some : goal.returns-in-Some
returns-in-Some c =
    let g = graph_of c.args.g.now in
    let cost = c.args.cost.now in
    let weights = c.args.weights.now in
    λ bounds task. c.barred.ensures bounds weights (at (pos 0) cost) task
    (weighed_by g cost weights c.requires.cost c.requires.weights) c.requires.solved

pub flows_of-requires-clause-sizes : goal.flows_of-requires-clause-sizes
flows_of-requires-clause-sizes c =
    let lower = ap length c.deref-2.ensures.value in
    let sent = ap length c.deref-3.ensures.value in
    let lower_all = c.requires.ready.lower.all in
    let sent_all = c.requires.solved.sent_all in
    omega (arith, lower, sent, lower_all, sent_all)

pub flows_of-requires-clause-lower : goal.flows_of-requires-clause-lower
flows_of-requires-clause-lower c =
    let all = c.requires.ready.lower.all in
    subst (λ zs. (k : ℕ) → k < length zs → IsValue (at (pos 0) zs k)) (sym c.deref-2.ensures.value)
    (λ k l. c.requires.ready.lower.small k (omega (arith, l, all)))

pub flows_of-requires-clause-sent : goal.flows_of-requires-clause-sent
flows_of-requires-clause-sent c =
    let g = graph_of c.args.g.now in
    let all = c.requires.ready.lower.all in
    let size = ap length c.deref-2.ensures.value in
    subst (λ zs. (k : ℕ) → k < length c.deref-2.result.now → at 0 zs k ≤ 2 ^ 62)
    (sym c.deref-3.ensures.value)
    (λ k l. sent_most g (at (pos 0) c.args.plan.now.excess.items) c.args.plan.now.caps.items
    c.args.weights.now c.args.solved.now c.requires.ready.caps c.requires.solved k
    (omega (arith, l, all, size)))

pub potentials_of-requires-clause-sizes : goal.potentials_of-requires-clause-sizes
potentials_of-requires-clause-sizes c =
    let price = ap length c.deref-4.ensures.value in
    let all = c.requires.solved.price_all in
    let count = c.node_count.ensures.count in
    omega (arith, price, all, count)

pub potentials_of-requires-clause-small : goal.potentials_of-requires-clause-small
potentials_of-requires-clause-small c =
    let run = c.args.solved.now in
    let solved = c.requires.solved in
    let last = solved.last in
    let t = task_of solved.count run.flow.ends.items c.args.plan.now.caps.items in
    let h = tree_of run.tree.parent.items run.tree.arc.items run.tree.depth.items in
    let price = ap length c.deref-4.ensures.value in
    let all = solved.price_all in
    let count = solved.count_is in
    λ v l. rw c.deref-4.ensures.value
    (price_small t (at (pos 0) c.args.weights.now) h (at (pos 0) run.flow.price.items)
    last.running.state.hung last.running.state.priced last.costed v
    (omega (arith, l, price, all, count)))

pub cost_of-cost-requires-clause-sizes : goal.cost_of-cost-requires-clause-sizes
cost_of-cost-requires-clause-sizes c =
    let lower = ap length c.deref-2.ensures.value in
    let flow = c.in_ok-flow.ensures.all in
    let flow_is = ap length c.deref-5.ensures.value in
    let lower_all = c.requires.ready.lower.all in
    let all = c.requires.cost.all in
    omega (arith, lower, flow, flow_is, lower_all, all)

pub cost_of-cost-requires-clause-few : goal.cost_of-cost-requires-clause-few
cost_of-cost-requires-clause-few c =
    let all = c.requires.cost.all in
    let few = c.arc_count.ensures.few in
    let count = c.arc_count.ensures.count in
    omega (arith, all, few, count)

pub cost_of-cost-requires-clause-small : goal.cost_of-cost-requires-clause-small
cost_of-cost-requires-clause-small c k l =
    let all = c.requires.cost.all in
    c.requires.cost.small k (omega (arith, l, all))

pub returns : goal.returns
returns c =
    let g = graph_of c.args.g.now in
    let plan = c.args.plan.now in
    let run = c.args.solved.now in
    let ready = c.requires.ready in
    let solved = c.requires.solved in
    let cost = c.args.cost.now in
    let weights = c.args.weights.now in
    let flow = c.in_ok-flow.flow.items in
    let pi = c.in_ok-pi.pi.items in
    λ bounds task.
    (let t = task_of solved.count run.flow.ends.items plan.caps.items in
    let h = tree_of run.tree.parent.items run.tree.arc.items run.tree.depth.items in
    let y = at (pos 0) run.flow.price.items in
    let last = solved.last in
    let network : IsNetwork g bounds t = record {
      rooted = last.rooted;
      ends = ready.ends;
      spans = task.spans;
      rim_open = ready.caps.rim;
    } in
    let none = short_none g c.arc_count.result run.flow.sent.items c.deref.result.now
    c.first_positive.result c.in_default.not-Some c.arc_count.ensures.count c.deref.ensures.value
    solved.sent_all c.first_positive.ensures.found in
    let all = c.requires.cost.all in
    let flows = rw (c.deref-2.ensures.value, c.deref-3.ensures.value, ready.lower.all) at
    c.in_ok-flow.ensures in
    let potentials = rw (c.node_count.ensures.count, c.deref-4.ensures.value) at
    c.in_ok-pi.ensures in
    let sum = c.cost_of-cost.ensures in
    let fits : FitsSigned w128 c.cost_of-cost.result = search rules in
    let best = is_best g bounds (at (pos 0) plan.excess.items) t (at (pos 0) weights) h
    (at 0 run.flow.sent.items) y run.endless network task.excess last c.requires.stopped
    (at (pos 0) plan.lower.items) (at (pos 0) plan.upper.items) (at (pos 0) plan.supply.items)
    task.lower flow flows (at (pos 0) cost) pi c.cost_of-cost.result potentials none
    c.requires.weights.inner (rw (all, c.deref-5.ensures.value) at sum) in
    record {
      shows = rw (
        c.from_vec.ensures,
        c.from_vec-2.ensures,
        to_z-of_z w128 c.cost_of-cost.result fits,
      ) best.0;
      basic = rw c.from_vec.ensures best.1;
    })
