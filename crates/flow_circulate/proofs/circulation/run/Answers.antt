use Rattle.std.proofs.Common.{◌<◌, ◌^◌, ◌≤ℤ◌, ℕ, length, pos, neg_ℤ, sym, subst, arith}
use Rattle.std.proofs.lemmas.Result.{IfOk-weaker}
use Rattle.plain_certificates.specs.Tables.{at}
use Rattle.static_digraph.specs.Fixed.{graph_of}
use Rattle.flow_circulate.proofs.Answered.{begun_small}
use Rattle.flow_circulate.proofs.Found.{none_found}
use Rattle.flow_circulate.proofs.Runs.{excess_begun, first_run, has_rested, has_run}
use Rattle.flow_circulate.proofs.circulation.run.Goals as goal

pub load_of-requires : goal.load_of-requires
load_of-requires c =
    let g = graph_of c.args.g.now in
    let p = c.requires in
    let all = p.excess_all in
    subst (λ xs. (v : ℕ) → v < length xs → (neg_ℤ (pos (2 ^ 61)) ≤ℤ at (pos 0) xs v)
    × (at (pos 0) xs v ≤ℤ pos (2 ^ 61))) (sym c.deref.ensures.value)
    (λ v l. begun_small g c.args.plan.now p v (omega (arith, l, all)))

pub returns-in_default : goal.returns-in_default
returns-in_default c =
    let g = graph_of c.args.g.now in
    let plan = c.args.plan.now in
    let count = c.arc_count-arcs.ensures.count in
    let begun = c.in_ok-begun.begun in
    let long = excess_begun g plan c.requires c.deref.result.now c.deref.ensures.value
    c.arc_count-arcs.result count begun c.in_ok-begun.ensures in
    let none = none_found g.nodes begun.excess.items c.deref-2.result.now c.deref-2.ensures.value
    long c.first_positive.result c.first_positive.ensures.found c.in_default.not-Some in
    has_rested g plan c.requires c.deref.result.now c.deref.ensures.value c.arc_count-arcs.result
    count begun c.in_ok-begun.ensures none

pub settle-requires : goal.settle-requires
settle-requires c =
    let net = c.in_ok-net.net in
    first_run (graph_of c.args.g.now) c.args.plan.now c.requires c.deref.result.now
    c.deref.ensures.value c.arc_count-arcs.result c.arc_count-arcs.ensures.count
    c.in_ok-begun.begun c.in_ok-begun.ensures net.ends.items net.start.items net.row.items
    c.in_ok-net.ensures c.deref-3.result.now c.deref-3.ensures.value

pub returns : goal.returns
returns c =
    let net = c.in_ok-net.net in
    IfOk-weaker c.settle.result _ _
    (has_run (graph_of c.args.g.now) c.args.plan.now c.requires c.deref.result.now
    c.deref.ensures.value c.arc_count-arcs.result c.arc_count-arcs.ensures.count
    c.in_ok-begun.begun c.in_ok-begun.ensures net.ends.items net.start.items net.row.items
    c.in_ok-net.ensures c.deref-3.result.now c.deref-3.ensures.value) c.settle.ensures
