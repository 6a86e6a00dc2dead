-- Flows above the lower bounds that are within the capacities, and which each node sends, are
-- feasible.
use Rattle.std.proofs.Common.{◌≡◌, ℕ, ◌<◌, ◌≤◌, ◌^◌, ℤ, pos, ◌+ℤ◌, Option, None}
use Rattle.std.proofs.Common.{Some, List, ap, ◌∙◌, arith}
use Rattle.std.proofs.lemmas.Int.{ints}
use Rattle.plain_certificates.proofs.Nets.{net-add, net-same}
use Rattle.plain_certificates.specs.Cheapest.{cost_of, reduced_cost}
use Rattle.plain_certificates.specs.Feasible.{Bounds, IsAtMost, IsBelow, IsFeasible}
use Rattle.plain_certificates.specs.Numbered.{EndsAreNodes, Numbered}
use Rattle.plain_certificates.specs.Rooms.{as_flow}
use Rattle.plain_certificates.specs.Tables.{at}
use Rattle.task_bounds.specs.declared.plan.Plan.{Plan}
use Rattle.task_bounds.specs.Answers.{IsCheapest}
use Rattle.task_bounds.specs.Given.{AreFlows, IsSpan}
use Rattle.task_bounds.specs.Plan.{IsReadyFor}
use Rattle.task_bounds.specs.Potentials.{ArePotentials}
use Rattle.flow_mincost.specs.Prices.{HasNoGain}
use Rattle.flow_mincost.specs.Sent.{IsSent}

at_most : (upper : Option ℤ) (low x : ℤ) (cap f : ℕ) → IsSpan low upper cap → f ≤ cap
    → x ≡ low +ℤ pos f → IsAtMost x upper
at_most None low x cap f span l is = tt
at_most (Some high) low x cap f span l is =
    let room = span.0 in
    omega (arith, ints, room, l, is)

-- below its upper bound an arc has room, where it isn't full for want of one
below : (upper : Option ℤ) (low x : ℤ) (cap f : ℕ) → IsSpan low upper cap
    → (cap ≡ 2 ^ 62 → f < 2 ^ 62) → x ≡ low +ℤ pos f → IsBelow x upper → f < cap
below None low x cap f span free is less =
    let few = free span in
    omega (arith, span, few)
below (Some high) low x cap f span free is less =
    let room = span.0 in
    omega (arith, ints, room, is, less)

module _ (g : Numbered) (bounds : Bounds) (plan : Plan) (task : IsReadyFor g bounds plan)
    (sent : List ℕ) (s : IsSent g plan sent) (flow : List ℤ)
    (flows : AreFlows g.arcs (at (pos 0) plan.lower.items) (at 0 sent) flow) where
  flow_is : (k : ℕ) → k < g.arcs → at (pos 0) flow k ≡ bounds.lower k +ℤ pos (at 0 sent k)
  flow_is k l = flows.each k l ∙ ap (λ z. z +ℤ pos (at 0 sent k)) (task.lower k l)

  pub feasible : IsFeasible g bounds (at (pos 0) flow)
  feasible = record {
    above_lower = λ k l. (let is = flow_is k l in omega (arith, ints, is));
    within_upper = λ k l.
        at_most (bounds.upper k) (bounds.lower k) (at (pos 0) flow k) (at 0 plan.caps.items k)
        (at 0 sent k) (task.spans k l) (s.within.within k l) (flow_is k l);
    supplied = λ v l.
        (let same = net-same g (at (pos 0) flow) (λ k. bounds.lower k +ℤ pos (at 0 sent k)) v
        flow_is in
        let sum = net-add g bounds.lower (as_flow (at 0 sent)) v in
        let sends = s.balance v l in
        let supply = task.excess v l in
        omega (arith, ints, same, sum, sends, supply));
  }

  -- a cheapest flow, by potentials, where no arc without an upper bound is full
  pub is_cheapest : (cost y : ℕ → ℤ) (pi : List ℤ) (total : ℤ) → EndsAreNodes g
      → ArePotentials g.nodes y pi → HasNoGain g (at 0 plan.caps.items) cost (at 0 sent) y
      → ((k : ℕ) → k < g.arcs → at 0 plan.caps.items k ≡ 2 ^ 62 → at 0 sent k < 2 ^ 62)
      → total ≡ cost_of g cost (at (pos 0) flow)
      → IsCheapest g bounds cost flow pi total
  is_cheapest cost y pi total ends prices best free sum = record {
    flow_all = flows.all;
    pi_all = prices.all;
    optimal = record {
      feasible = feasible;
      total_is = sum;
      first_is_0 = λ some. (let e = prices.each 0 some in omega (arith, ints, e));
      no_gain = λ k l less.
          (let up = best.up k l (below (bounds.upper k) (bounds.lower k) (at (pos 0) flow k)
          (at 0 plan.caps.items k) (at 0 sent k) (task.spans k l) (free k l) (flow_is k l) less) in
          let same = reduced_same k l in
          omega (arith, ints, up, same));
      no_loss = λ k l above.
          (let is = flow_is k l in
          let down = best.down k l (omega (arith, ints, is, above)) in
          let same = reduced_same k l in
          omega (arith, ints, down, same));
    };
  }
    where
      reduced_same : (k : ℕ) → k < g.arcs
          → reduced_cost g cost (at (pos 0) pi) k ≡ reduced_cost g cost y k
      reduced_same k l =
          let from = prices.each (g.from k) (ends k l).0 in
          let to = prices.each (g.to k) (ends k l).1 in
          omega (arith, ints, from, to)
