use Rattle.std.proofs.Common.{◌≤◌, ◌<◌, ◌^◌, ℕ, length, pos, sym, ap, subst}
use Rattle.std.proofs.Common.{FitsSigned, to_z, of_z, arith, rules}
use Rattle.std.specs.Int.{w128}
use Rattle.std.proofs.lemmas.Int.{to_z-of_z}
use Rattle.pivot_flow.specs.Tree.{task_of, tree_of}
use Rattle.plain_certificates.specs.Tables.{at}
use Rattle.static_digraph.specs.Fixed.{graph_of}
use Rattle.net_simplex.proofs.Answered.{is_feasible}
use Rattle.task_bounds.proofs.Freed.{is_free_cycle, told_free}
use Rattle.net_simplex.proofs.Settled.{short_found, short_none}
use Rattle.task_bounds.specs.Given.{IsValue}
use Rattle.net_simplex.specs.Network.{IsNetwork}
use Rattle.net_simplex.proofs.answer.freed.Goals as goal

pub first_positive-requires : goal.first_positive-requires
first_positive-requires c =
    let sent = ap length c.deref.ensures.value in
    let all = c.requires.all in
    let count = c.arc_count.ensures.count in
    omega (arith, sent, all, count)

pub barred-requires-clause-node : goal.barred-requires-clause-node
barred-requires-clause-node c =
    (short_found (graph_of c.args.g.now) c.arc_count.result c.args.solved.now.flow.sent.items
    c.deref.result.now c.first_positive.result c.in-Some.v c.in-Some.is c.arc_count.ensures.count
    c.deref.ensures.value c.requires.all c.first_positive.ensures.found).0

pub barred-requires-clause-short : goal.barred-requires-clause-short
barred-requires-clause-short c =
    (short_found (graph_of c.args.g.now) c.arc_count.result c.args.solved.now.flow.sent.items
    c.deref.result.now c.first_positive.result c.in-Some.v c.in-Some.is c.arc_count.ensures.count
    c.deref.ensures.value c.requires.all c.first_positive.ensures.found).1

pub returns-in-Some : goal.returns-in-Some
returns-in-Some c = λ bounds weights task weighed solved.
    c.barred.ensures bounds weights (at (pos 0) c.args.cost.now) task weighed solved

pub flows_of-requires-clause-sizes : goal.flows_of-requires-clause-sizes
flows_of-requires-clause-sizes c =
    let lower = ap length c.deref-2.ensures.value in
    let sent = ap length c.deref-3.ensures.value in
    let lower_all = c.requires.ready.lower.all in
    let sent_all = c.requires.all in
    omega (arith, lower, sent, lower_all, sent_all)

pub flows_of-requires-clause-lower : goal.flows_of-requires-clause-lower
flows_of-requires-clause-lower c =
    let all = c.requires.ready.lower.all in
    subst (λ zs. (k : ℕ) → k < length zs → IsValue (at (pos 0) zs k)) (sym c.deref-2.ensures.value)
    (λ k l. c.requires.ready.lower.small k (omega (arith, l, all)))

pub flows_of-requires-clause-sent : goal.flows_of-requires-clause-sent
flows_of-requires-clause-sent c =
    let all = c.requires.ready.lower.all in
    let size = ap length c.deref-2.ensures.value in
    subst (λ zs. (k : ℕ) → k < length c.deref-2.result.now → at 0 zs k ≤ 2 ^ 62)
    (sym c.deref-3.ensures.value)
    (λ k l. c.requires.sent k (omega (arith, l, all, size)))

pub cost_along-total-requires-clause-inside : goal.cost_along-total-requires-clause-inside
cost_along-total-requires-clause-inside c =
    let all = c.requires.cost.all in
    subst (λ xs. (i : ℕ) → i < length xs → at 0 xs i < length c.args.cost.now)
    (sym c.deref-4.ensures.value)
    (λ i l. (let arc = (c.requires.cycle.roomy i 0 l).0 in omega (arith, arc, all)))

pub cost_along-total-requires-clause-small : goal.cost_along-total-requires-clause-small
cost_along-total-requires-clause-small c k l =
    let all = c.requires.cost.all in
    c.requires.cost.small k (omega (arith, l, all))

pub returns : goal.returns
returns c =
    let g = graph_of c.args.g.now in
    let plan = c.args.plan.now in
    let run = c.args.solved.now in
    let ready = c.requires.ready in
    let cost = at (pos 0) c.args.cost.now in
    let flow = c.in_ok-flow.flow.items in
    λ bounds weights task weighed solved.
    (let t = task_of solved.count run.flow.ends.items plan.caps.items in
    let h = tree_of run.tree.parent.items run.tree.arc.items run.tree.depth.items in
    let network : IsNetwork g bounds t = record {
      rooted = solved.last.rooted;
      ends = ready.ends;
      spans = task.spans;
      rim_open = ready.caps.rim;
    } in
    let none = short_none g c.arc_count.result run.flow.sent.items c.deref.result.now
    c.first_positive.result c.in_default.not-Some c.arc_count.ensures.count c.deref.ensures.value
    c.requires.all c.first_positive.ensures.found in
    let flows = rw (c.deref-2.ensures.value, c.deref-3.ensures.value, ready.lower.all) at
    c.in_ok-flow.ensures in
    let feasible = is_feasible g bounds (at (pos 0) plan.excess.items) t (at (pos 0) weights) h
    (at 0 run.flow.sent.items) (at (pos 0) run.flow.price.items) run.endless network task.excess
    solved.last c.requires.stopped (at (pos 0) plan.lower.items) (at (pos 0) plan.upper.items)
    (at (pos 0) plan.supply.items) task.lower flow flows none in
    let fits : FitsSigned w128 c.cost_along-total.result = search rules in
    record {
      shows = told_free g bounds cost flow c.from_vec.result c.args.cycle.items c.from_vec-2.result
          c.cost_along-total.result (to_z w128 (of_z w128 c.cost_along-total.result))
          c.from_vec.ensures c.from_vec-2.ensures (to_z-of_z w128 c.cost_along-total.result fits)
          flows.all
          (is_free_cycle g (at 0 plan.caps.items) bounds cost (at (pos 0) flow) c.args.cycle.items
          c.cost_along-total.result task.spans c.requires.cycle feasible
          (rw c.deref-4.ensures.value at c.cost_along-total.ensures));
      basic = tt;
    })
