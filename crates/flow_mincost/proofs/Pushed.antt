-- What is sent along a round changes no net flow, and changes the cost by its part.
use Rattle.std.proofs.Common.{◌≡◌, ℕ, ◌<◌, ◌^◌, Bool, true, false, ℤ, pos, neg_ℤ}
use Rattle.std.proofs.Common.{◌*ℤ◌, ◌≤ℤ◌, ◌<ℤ◌, List, sym, ◌∙◌, ap, subst, arith}
use Rattle.std.specs.Int.{int_gap}
use Rattle.std.proofs.lemmas.Int.{ints}
use Rattle.plain_certificates.proofs.Measures.{gap_falls}
use Rattle.plain_certificates.proofs.Products.{mul_le, neg-mul, one_times}
use Rattle.plain_certificates.proofs.Sums.{sum_to-le}
use Rattle.plain_certificates.proofs.Trails.{cost_pushed, net_round}
use Rattle.plain_certificates.specs.Cheapest.{cost_of}
use Rattle.plain_certificates.specs.Numbered.{Numbered, net}
use Rattle.plain_certificates.specs.Pushes.{along_trail}
use Rattle.plain_certificates.specs.Rooms.{as_flow}
use Rattle.plain_certificates.specs.Tables.{at}
use Rattle.plain_certificates.specs.Walks.{IsTrail}
use Rattle.pace_search.specs.Paces.{paces_at}
use Rattle.task_bounds.proofs.Summing.{product_small}
use Rattle.task_bounds.specs.Given.{IsValue}
use Rattle.flow_mincost.specs.Pushing.{IsPushed, IsRoomy, Keeps}
use Rattle.flow_mincost.specs.Rooms.{IsWithin, signed}
use Rattle.flow_mincost.specs.Sent.{floor_of}

-- a positive number times a negative one
less_times : (s : ℕ) (x : ℤ) → 0 < s → x <ℤ pos 0 → (pos s *ℤ x) <ℤ pos 0
less_times s x some less =
    let z : pos 0 ≤ℤ pos s = omega (arith, ints) in
    let bound = mul_le (pos s) x (neg_ℤ (pos 1)) z (omega (arith, ints, less)) in
    let is : pos s *ℤ neg_ℤ (pos 1) ≡ neg_ℤ (pos s) = grind (arith, ints) in
    omega (arith, ints, bound, is, some)

-- what is sent ahead where that saves, or taken back where that costs
pub falls_by : (ahead : Bool) (s : ℕ) (x : ℤ) → 0 < s → (signed ahead 1 *ℤ x) <ℤ pos 0
    → (signed ahead s *ℤ x) <ℤ pos 0
falls_by true s x some less =
    let e = one_times x in
    less_times s x some (omega (arith, ints, less, e))
falls_by false s x some less =
    let e = one_times x in
    let f = neg-mul (pos 1) x in
    let h = less_times s (neg_ℤ x) some (omega (arith, ints, less, e, f)) in
    let i : neg_ℤ (pos s) *ℤ x ≡ pos s *ℤ neg_ℤ x = grind (arith, ints) in
    omega (arith, ints, h, i)

module _ (g : Numbered) (cap : List ℕ) (ahead : Bool) (round old new : List ℕ)
    (roomy : IsRoomy g (at 0 cap) (at 0 old) ahead round)
    (sent : IsPushed g cap ahead round old new) (node : ℕ)
    (closed : IsTrail g node (paces_at g round) node) where
  pub step_some : 0 < sent.step
  step_some =
      let least = sent.least in
      let is = least.is in
      let more = roomy.roomy least.place 0 least.within in
      subst (λ x. 0 < x) (sym is) more

  pub keeps_round : (first : List ℕ) → Keeps g cap first old → Keeps g cap first new
  keeps_round first was = record {
    within = sent.within;
    same_net = λ v.
        ap (λ (f : ℕ → ℤ). net g f v) sent.flow
        ∙ (net_round g (signed ahead sent.step) (paces_at g round) (as_flow (at 0 old)) node v
        closed ∙ was.same_net v);
  }

  -- the cost falls where the round is sent ahead and saves, or taken back and costs
  pub cost_falls : (cost : ℕ → ℤ)
      → (signed ahead 1 *ℤ along_trail cost (paces_at g round)) <ℤ pos 0
      → cost_of g cost (as_flow (at 0 new)) <ℤ cost_of g cost (as_flow (at 0 old))
  cost_falls cost less =
      let is = ap (cost_of g cost) sent.flow in
      let by = cost_pushed g cost (signed ahead sent.step) (paces_at g round)
      (as_flow (at 0 old)) node node closed in
      let part = falls_by ahead sent.step (along_trail cost (paces_at g round)) step_some less in
      omega (arith, ints, is, by, part)

  pub gap_less : (cost : ℕ → ℤ) (floor : ℤ)
      → (signed ahead 1 *ℤ along_trail cost (paces_at g round)) <ℤ pos 0
      → floor ≤ℤ cost_of g cost (as_flow (at 0 new))
      → int_gap floor (cost_of g cost (as_flow (at 0 new)))
      < int_gap floor (cost_of g cost (as_flow (at 0 old)))
  gap_less cost floor less low =
      gap_falls floor (cost_of g cost (as_flow (at 0 new))) (cost_of g cost (as_flow (at 0 old)))
      low (cost_falls cost less)

-- no flow within the capacities costs less than the floor
pub above_floor : (g : Numbered) (cap new : List ℕ) (cost : ℕ → ℤ)
    → ((k : ℕ) → k < g.arcs → IsValue (cost k)) → IsWithin g cap new
    → floor_of g ≤ℤ cost_of g cost (as_flow (at 0 new))
above_floor g cap new cost small within =
    sum_to-le g.arcs (λ _. neg_ℤ (pos (2 ^ 99))) (λ k. cost k *ℤ pos (at 0 new k))
    (λ k l.
    (let few = within.few k l in
    let most = within.within k l in
    (product_small (cost k) (pos (at 0 new k)) (small k l) (omega (arith, ints))
    (omega (arith, ints, few, most))).0))
