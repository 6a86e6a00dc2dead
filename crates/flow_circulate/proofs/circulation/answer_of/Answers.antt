use Rattle.std.proofs.Common.{◌<◌, ◌≤◌, ◌^◌, ◌∙◌, ℕ, List, length, pos}
use Rattle.std.proofs.Common.{sym, ap, subst, arith}
use Rattle.plain_certificates.specs.Tables.{at}
use Rattle.static_digraph.specs.Fixed.{graph_of}
use Rattle.task_bounds.specs.Given.{IsValue}
use Rattle.flow_circulate.proofs.Answered.{is_feasible, sent_few}
use Rattle.flow_circulate.proofs.Runs.{flow_long}
use Rattle.std.specs.Prelude.{MatchOption}
use Rattle.task_bounds.specs.Answers.{ShowsNoFlow}
use Rattle.flow_circulate.specs.Runs.{IsMet}
use Rattle.flow_circulate.proofs.circulation.answer_of.Goals as goal

pub returns-in-Some : goal.returns-in-Some
returns-in-Some c =
    let g = graph_of c.args.g.now in
    λ bounds task.
    subst (λ found. MatchOption found (IsMet g c.args.ended.now) (ShowsNoFlow g bounds))
    c.in-Some.is (c.in_ok-barrier.ensures bounds task)

pub flows_of-requires : goal.flows_of-requires
flows_of-requires c =
    let g = graph_of c.args.g.now in
    let plan = c.args.plan.now in
    let ended = c.args.ended.now in
    let p = c.requires.ready in
    let all = p.lower.all in
    let lower = ap length c.deref.ensures.value ∙ p.lower.all in
    let sent = ap length c.deref-2.ensures.value ∙ flow_long g plan ended c.requires.ran in
    record {
      sizes = omega (arith, lower, sent);
      lower =
          subst (λ xs. (k : ℕ) → k < length xs → IsValue (at (pos 0) xs k))
          (sym c.deref.ensures.value)
          (λ k l. p.lower.small k (omega (arith, l, all)));
      sent =
          subst (λ (xs : List ℕ). (k : ℕ) → k < length c.deref.result.now → at 0 xs k ≤ 2 ^ 62)
          (sym c.deref-2.ensures.value)
          (λ k l. sent_few g plan ended p c.requires.ran k (omega (arith, l, lower)));
    }

pub returns : goal.returns
returns c =
    let g = graph_of c.args.g.now in
    let plan = c.args.plan.now in
    let ended = c.args.ended.now in
    let p = c.requires.ready in
    let run = c.requires.ran in
    let flows = rw (c.deref.ensures.value, c.deref-2.ensures.value, p.lower.all) at
    c.in_ok-flow.ensures in
    λ bounds task.
    (let met : IsMet g ended =
    subst (λ found. MatchOption found (IsMet g ended) (ShowsNoFlow g bounds))
    c.in_default.is (c.in_ok-barrier.ensures bounds task) in
    rw c.from_vec.ensures (
      flows.all,
      is_feasible g bounds plan ended p task run c.in_ok-flow.flow.items flows met.none_left
          met.none_wanted,
    ))
