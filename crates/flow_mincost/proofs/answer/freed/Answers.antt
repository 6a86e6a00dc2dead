use Rattle.std.proofs.Common.{◌≡◌, FitsSigned, length, pos, to_z, of_z, ◌∙◌, ap, subst}
use Rattle.std.proofs.Common.{rules}
use Rattle.std.specs.Int.{w128}
use Rattle.std.proofs.lemmas.Int.{to_z-of_z}
use Rattle.plain_certificates.specs.Tables.{at}
use Rattle.plain_certificates.specs.Walks.{along}
use Rattle.task_bounds.proofs.Freed.{is_free_cycle, told_free}
use Rattle.task_bounds.specs.Given.{AreFlows}
use Rattle.flow_mincost.proofs.Feasibly.{feasible}
use Rattle.flow_mincost.proofs.answer.freed.Goals as goal

pub returns : goal.returns
returns c =
    let plan = c.args.plan.now in
    let cost = at (pos 0) c.args.cost.now in
    let sent = c.args.sent.now in
    let flow = c.in_ok-flow.flow.items in
    let cycle = c.args.cycle.items in
    let total = c.cost_along-total.result in
    let fits : FitsSigned w128 total = search rules in
    let all = c.requires.lower.all in
    λ g bounds task s free.
    (let count : length c.deref.result.now ≡ g.arcs =
    ap length c.deref.ensures.value ∙ (all ∙ s.within.all) in
    let flows : AreFlows g.arcs (at (pos 0) plan.lower.items) (at 0 sent) flow =
    subst (λ n. AreFlows n (at (pos 0) plan.lower.items) (at 0 sent) flow) count
    (subst (λ xs. AreFlows (length c.deref.result.now) (at (pos 0) xs) (at 0 sent) flow)
    c.deref.ensures.value c.in_ok-flow.ensures) in
    let sum = subst (λ xs. total ≡ along cost xs) c.deref-2.ensures.value
    c.cost_along-total.ensures in
    told_free g bounds cost flow c.from_vec.result cycle c.from_vec-2.result total
    (to_z w128 (of_z w128 total)) c.from_vec.ensures c.from_vec-2.ensures
    (to_z-of_z w128 total fits) flows.all
    (is_free_cycle g (at 0 plan.caps.items) bounds cost (at (pos 0) flow) cycle total task.spans
    free (feasible g bounds plan task sent s flow flows) sum))
