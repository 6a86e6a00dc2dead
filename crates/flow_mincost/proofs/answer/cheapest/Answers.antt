use Rattle.std.proofs.Common.{subst, sym}
use Rattle.std.specs.Option.{option_copied}
use Rattle.std.specs.Prelude.{MatchOption}
use Rattle.static_digraph.specs.Fixed.{graph_of}
use Rattle.flow_circulate.specs.Runs.{IsMet}
use Rattle.task_bounds.specs.Answers.{ShowsNoFlow}
use Rattle.task_bounds.specs.Given.{bounds_given}
use Rattle.flow_mincost.proofs.Endings.{sent_first}
use Rattle.flow_mincost.specs.Sent.{IsSent}
use Rattle.flow_mincost.proofs.answer.cheapest.Goals as goal

pub returns-in-Some : goal.returns-in-Some
returns-in-Some c =
    let g = graph_of c.args.g.now in
    let bounds = bounds_given (option_copied c.args.lower) (option_copied c.args.upper)
    (option_copied c.args.supply) in
    subst (λ found. MatchOption found (IsMet g c.in_ok-ended.ended) (ShowsNoFlow g bounds))
    c.in-Some.is (c.in_ok-barrier.ensures bounds c.in_ok-plan.ensures.task)

pub settle-requires-clause-sent : goal.settle-requires-clause-sent
settle-requires-clause-sent c =
    let g = graph_of c.args.g.now in
    let bounds = bounds_given (option_copied c.args.lower) (option_copied c.args.upper)
    (option_copied c.args.supply) in
    let plan = c.in_ok-plan.plan in
    let ended = c.in_ok-ended.ended in
    let met : IsMet g ended =
    subst (λ found. MatchOption found (IsMet g ended) (ShowsNoFlow g bounds)) c.in_default.is
    (c.in_ok-barrier.ensures bounds c.in_ok-plan.ensures.task) in
    subst (IsSent g plan) (sym c.deref_mut.ensures.value)
    (sent_first g plan ended c.in_ok-plan.ensures.ready c.in_ok-ended.ensures met)

pub returns : goal.returns
returns c =
    c.settle.ensures (bounds_given (option_copied c.args.lower) (option_copied c.args.upper)
    (option_copied c.args.supply)) c.in_ok-plan.ensures.task
