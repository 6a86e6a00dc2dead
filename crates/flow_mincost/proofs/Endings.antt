-- What the end of the search for a cheapest flow shows.
use Rattle.std.proofs.Common.{◌≡◌, ℕ, ◌<◌, ◌≤◌, ◌^◌, ℤ, pos, neg_ℤ, ◌≤ℤ◌, List, length, ◌∙◌}
use Rattle.std.proofs.Common.{arith, inl, inr}
use Rattle.std.proofs.lemmas.Int.{ints}
use Rattle.plain_certificates.specs.Cheapest.{cost_of}
use Rattle.plain_certificates.specs.Feasible.{Bounds}
use Rattle.plain_certificates.specs.Numbered.{Numbered}
use Rattle.plain_certificates.specs.Tables.{at}
use Rattle.flow_loads.specs.declared.loads.Load.{Load}
use Rattle.flow_circulate.proofs.Answered.{run_balance}
use Rattle.flow_circulate.proofs.Runs.{flow_long}
use Rattle.flow_circulate.specs.Runs.{HasRun, IsMet}
use Rattle.task_bounds.specs.declared.plan.Plan.{Plan}
use Rattle.task_bounds.specs.Answers.{IsCheapest}
use Rattle.task_bounds.specs.Given.{AreFlows}
use Rattle.task_bounds.specs.Plan.{IsReady, IsReadyFor}
use Rattle.task_bounds.specs.Potentials.{ArePotentials}
use Rattle.flow_mincost.proofs.Feasibly.{is_cheapest}
use Rattle.flow_mincost.proofs.Levelled.{none_full}
use Rattle.flow_mincost.specs.Prices.{ArePrices, HasLevels, HasNoGain}
use Rattle.flow_mincost.specs.Pushing.{Keeps}
use Rattle.flow_mincost.specs.Sent.{IsSent}

-- capacities are at most that which stands for none
caps_few : (g : Numbered) (plan : Plan) → IsReady g 0 plan → (k : ℕ) → k < g.arcs
    → at 0 plan.caps.items k ≤ 2 ^ 62
caps_few g plan p k l = elim (p.caps.inner k l) [
  | inl few ↦ omega (arith, few)
  | inr open_cap ↦ omega (arith, open_cap)
]

-- what the engine leaves where no node wants anything
pub sent_first : (g : Numbered) (plan : Plan) (ended : Load) → IsReady g 0 plan
    → HasRun g plan ended → IsMet g ended → IsSent g plan ended.flow.items
sent_first g plan ended p run met =
    let caps = p.caps.all in
    record {
      within = record {
        caps_all = omega (arith, caps);
        all = flow_long g plan ended run;
        few = caps_few g plan p;
        within = run.settled.held.within;
      };
      balance = λ v l.
          (let is = run_balance g plan ended run v l in
          let left = met.none_left v l in
          let wanted = met.none_wanted v l in
          omega (arith, ints, is, left, wanted));
    }

pub sent_kept : (g : Numbered) (plan : Plan) (old new : List ℕ) → IsSent g plan old
    → Keeps g plan.caps.items old new → IsSent g plan new
sent_kept g plan old new was keeps = record {
  within = keeps.within;
  balance = λ v l. keeps.same_net v ∙ was.balance v l;
}

-- prices of another flow
pub prices_of : (g : Numbered) (cap : ℕ → ℕ) (cost : ℕ → ℤ) (old new : ℕ → ℕ) (pi : List ℤ)
    → ArePrices g cap cost old pi → HasNoGain g cap cost new (at (pos 0) pi)
    → ArePrices g cap cost new pi
prices_of g cap cost old new pi was best =
    record { all = was.all; low = was.low; high = was.high; no_gain = best }

-- potentials are small
pub prices_small : (g : Numbered) (cap : ℕ → ℕ) (cost : ℕ → ℤ) (sent : ℕ → ℕ) (pi : List ℤ)
    → g.nodes ≤ 2 ^ 20 → ArePrices g cap cost sent pi → (v : ℕ) → v < length pi
    → (neg_ℤ (pos (2 ^ 58)) ≤ℤ at (pos 0) pi v) × (at (pos 0) pi v ≤ℤ pos (2 ^ 58))
prices_small g cap cost sent pi few are v l =
    let all = are.all in
    let low = are.low v (omega (arith, l, all)) in
    let high = are.high v (omega (arith, l, all)) in
    (omega (arith, ints, low, few), omega (arith, ints, high))

pub best_flow : (g : Numbered) (bounds : Bounds) (plan : Plan) (cost : ℕ → ℤ) (pi told : List ℤ)
    (sent : List ℕ) (flow : List ℤ) (total : ℤ) → IsReady g 0 plan → IsReadyFor g bounds plan
    → IsSent g plan sent → ArePrices g (at 0 plan.caps.items) cost (at 0 sent) pi
    → HasLevels g (at 0 plan.caps.items) (at 0 sent)
    → AreFlows g.arcs (at (pos 0) plan.lower.items) (at 0 sent) flow
    → ArePotentials g.nodes (at (pos 0) pi) told
    → total ≡ cost_of g cost (at (pos 0) flow)
    → IsCheapest g bounds cost flow told total
best_flow g bounds plan cost pi told sent flow total p task s prices levels flows potentials sum =
    is_cheapest g bounds plan task sent s flow flows cost (at (pos 0) pi) told total p.ends
    potentials prices.no_gain
    (none_full g (at 0 plan.caps.items) (at 0 sent) (at (pos 0) plan.excess.items) levels p.ends
    p.few_nodes p.few_arcs s.within.within p.caps.inner s.balance p.light)
    sum
