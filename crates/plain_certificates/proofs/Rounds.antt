-- Round a free cycle flows cost ever less.
use Rattle.std.proofs.Common.{◌≡◌, ℕ, ◌+◌, ◌<◌, ℤ, pos, neg_ℤ, ◌+ℤ◌, ◌*ℤ◌, ◌≤ℤ◌}
use Rattle.std.proofs.Common.{◌<ℤ◌, List, [], ◌∷◌, All, Option, Some, None, inl, inr, sym, ap, ◌∙◌}
use Rattle.std.proofs.Common.{arith}
use Rattle.std.specs.Int.{int_gap}
use Rattle.std.proofs.Math.IntN.{*ℤ_comm}
use Rattle.std.proofs.lemmas.Int.{ints}
use Rattle.std.proofs.lemmas.Bool.Decides.{eqb_tells}
use Rattle.std.proofs.lemmas.List.Elements.{All-head, All-tail}
use Rattle.plain_certificates.specs.Numbered.{Numbered}
use Rattle.plain_certificates.specs.Walks.{start_of}
use Rattle.plain_certificates.specs.Feasible.{Bounds, IsAtMost}
use Rattle.plain_certificates.specs.Cheapest.{cost_of}
use Rattle.plain_certificates.specs.Tables.{set_at}
use Rattle.plain_certificates.specs.Pushes.{pushed, all_onward}
use Rattle.plain_certificates.specs.Laws.{FreeCyclesHaveNoEnd, OptimalOrFreeCycle}
use Rattle.plain_certificates.proofs.Products.{neg-mul, one_times, mul_le}
use Rattle.plain_certificates.proofs.Measures.{gap_spans}
use Rattle.plain_certificates.proofs.Trails.{net_round, cost_pushed, walk_is_trail, along_onward}
use Rattle.plain_certificates.proofs.Costs.{optimal_is_cheapest}

-- the flow is within its bounds
record IsWithin (g : Numbered) (bounds : Bounds) (flow : ℕ → ℤ) : Type 0 where
  low : (arc : ℕ) → arc < g.arcs → bounds.lower arc ≤ℤ flow arc
  high : (arc : ℕ) → arc < g.arcs → IsAtMost (flow arc) (bounds.upper arc)

-- more on an arc without an upper bound
raised : (g : Numbered) (bounds : Bounds) (flow : ℕ → ℤ) (k : ℕ) (step : ℤ) → pos 0 ≤ℤ step
    → bounds.upper k ≡ None → IsWithin g bounds flow
    → IsWithin g bounds (set_at flow k (flow k +ℤ step))
raised g bounds flow k step up open_above within = record {
  low = λ arc l. elim (eqb_tells arc k) [
    | inl e ↦
        (let was = within.low arc l in
        let is = ap flow e.1 in
        rw e.0 (omega (arith, ints, was, is, up)))
    | inr e ↦ rw e.0 (within.low arc l)
  ];
  high = λ arc l. elim (eqb_tells arc k) [
    | inl e ↦ free arc (bounds.upper arc) (ap bounds.upper e.1 ∙ open_above)
    | inr e ↦ rw e.0 (within.high arc l)
  ];
}
  where
    free : (arc : ℕ) (bound : Option ℤ) → bound ≡ None
        → IsAtMost (set_at flow k (flow k +ℤ step) arc) bound
    free arc None is = tt
    free arc (Some b) is = absurd cc

round_within : (g : Numbered) (bounds : Bounds) (arcs : List ℕ) (flow : ℕ → ℤ) (step : ℤ)
    → pos 0 ≤ℤ step → All (λ arc. bounds.upper arc ≡ None) arcs → IsWithin g bounds flow
    → IsWithin g bounds (pushed step (all_onward arcs) flow)
round_within g bounds [] flow step up all within = within
round_within g bounds (arc ∷ arcs) flow step up all within =
    round_within g bounds arcs (set_at flow arc (flow arc +ℤ step)) step up
    (All-tail (λ other. bounds.upper other ≡ None) arc arcs all)
    (raised g bounds flow arc step up
    (All-head (λ other. bounds.upper other ≡ None) arc arcs all) within)

-- a negative number, taken n times
times_below : (n : ℕ) (total : ℤ) → total <ℤ pos 0 → (pos n *ℤ total) ≤ℤ neg_ℤ (pos n)
times_below n total less =
    let low : pos 0 ≤ℤ pos n = omega (arith, ints) in
    let bound = mul_le (pos n) total (neg_ℤ (pos 1)) low (omega (arith, ints, less)) in
    let is = *ℤ_comm (pos n) (neg_ℤ (pos 1))
    ∙ (neg-mul (pos 1) (pos n) ∙ ap neg_ℤ (one_times (pos n))) in
    omega (arith, ints, bound, is)

pub free_cycles_have_no_end : FreeCyclesHaveNoEnd
free_cycles_have_no_end g bounds cost flow cycle total free limit =
    let n = int_gap limit (cost_of g cost flow) + 1 in
    let arcs = all_onward cycle in
    let start = start_of g cycle in
    let trail = walk_is_trail g cycle start start free.is_cycle.closed in
    let within = round_within g bounds cycle flow (pos n) (omega (arith, ints)) free.unbounded
    (record { low = free.feasible.above_lower; high = free.feasible.within_upper }) in
    record {
      flow = pushed (pos n) arcs flow;
      feasible = record {
        above_lower = within.low;
        within_upper = within.high;
        supplied = λ v l. net_round g (pos n) arcs flow start v trail ∙ free.feasible.supplied v l;
      };
      cheaper =
          (let sum = cost_pushed g cost (pos n) arcs flow start start trail in
          let is = ap (λ x. pos n *ℤ x) (along_onward cost cycle ∙ sym free.total_is) in
          let less = times_below n total free.negative in
          let gap = gap_spans limit (cost_of g cost flow) in
          omega (arith, ints, sum, is, less, gap));
    }

pub optimal_or_free_cycle : OptimalOrFreeCycle
optimal_or_free_cycle g bounds cost flow pi total other cycle round ends optimal free =
    let cheaper = free_cycles_have_no_end g bounds cost other cycle round free total in
    let least = optimal_is_cheapest g bounds cost flow pi total ends optimal cheaper.flow
    cheaper.feasible in
    let less = cheaper.cheaper in
    absurd (omega (arith, ints, least, less))
