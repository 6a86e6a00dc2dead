use Rattle.std.proofs.Common.{◌≡◌, FitsSigned, pos}
use Rattle.std.proofs.Common.{rules}
use Rattle.std.specs.Int.{w128}
use Rattle.std.proofs.lemmas.Int.{to_z-of_z}
use Rattle.plain_certificates.specs.Cheapest.{cost_of}
use Rattle.plain_certificates.specs.Tables.{at}
use Rattle.static_digraph.specs.Fixed.{graph_of}
use Rattle.task_bounds.specs.Given.{AreFlows}
use Rattle.task_bounds.specs.Potentials.{ArePotentials}
use Rattle.flow_mincost.proofs.Endings.{best_flow}
use Rattle.flow_mincost.proofs.answer.best.Goals as goal

pub returns : goal.returns
returns c =
    let g = graph_of c.args.g.now in
    let plan = c.args.plan.now in
    let cost = at (pos 0) c.args.cost.now in
    let sent = c.args.sent.now in
    let pi = c.args.pi.now in
    let flow = c.in_ok-flow.flow.items in
    let told = c.in_ok-told.told.items in
    let total = c.cost_of-total.result in
    let p = c.requires.ready in
    let fits : FitsSigned w128 total = search rules in
    let flows : AreFlows g.arcs (at (pos 0) plan.lower.items) (at 0 sent) flow =
    rw (c.deref.ensures.value, p.lower.all) at c.in_ok-flow.ensures in
    let potentials : ArePotentials g.nodes (at (pos 0) pi) told =
    rw c.node_count.ensures.count at c.in_ok-told.ensures in
    let sum : total ≡ cost_of g cost (at (pos 0) flow) =
    rw (c.requires.cost.all, c.deref-2.ensures.value) at c.cost_of-total.ensures in
    λ bounds task.
    rw (c.from_vec.ensures, c.from_vec-2.ensures, to_z-of_z w128 total fits)
    (best_flow g bounds plan cost pi told sent flow total p task c.requires.sent c.requires.prices
    c.requires.levels flows potentials sum)
