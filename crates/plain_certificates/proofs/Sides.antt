-- What a set of nodes sends out, and what cuts and barriers show.
use Rattle.std.proofs.Common.{◌≡◌, ◌≢◌, ℕ, ◌<◌, Bool, true, false, ◌&&◌, not, cond, ℤ, pos}
use Rattle.std.proofs.Common.{◌-ℤ◌, ◌*ℤ◌, ◌≤ℤ◌, Option, None, Some, refl, sym, ap, ◌∙◌, arith}
use Rattle.std.specs.Prelude.{unwrap_or}
use Rattle.std.proofs.lemmas.Int.{ints}
use Rattle.plain_certificates.specs.Numbered.{Numbered, EndsAreNodes, sum_where, net}
use Rattle.plain_certificates.specs.Cuts.{leaves, enters}
use Rattle.plain_certificates.specs.Feasible.{Bounds, IsAtMost, IsFeasible, upper_of, IsOver}
use Rattle.plain_certificates.specs.Feasible.{IsUnder}
use Rattle.plain_certificates.specs.Laws.{CutsAreLargest, BarriersLeaveNoFlow}
use Rattle.plain_certificates.proofs.Sums.{sum_to-same, sum_to-sub, sum_to-zero, mark}
use Rattle.plain_certificates.proofs.Sums.{weighed_by_mark, sum_where-same, sum_where-le}
use Rattle.plain_certificates.proofs.Sums.{sum_where-not_neg, sum_where-one}
use Rattle.plain_certificates.proofs.Weights.{weighed}

-- an arc's part in what a set sends
crossing : (b d : Bool) (x : ℤ)
    → (cond b (pos 1) (pos 0) -ℤ cond d (pos 1) (pos 0)) *ℤ x
    ≡ cond (b && not d) x (pos 0) -ℤ cond (not b && d) x (pos 0)
crossing true true x = grind (arith, ints)
crossing true false x = grind (arith, ints)
crossing false true x = grind (arith, ints)
crossing false false x = grind (arith, ints)

-- a set sends out what leaves it minus what enters it
pub set_sends : (g : Numbered) (set : ℕ → Bool) (flow : ℕ → ℤ) → EndsAreNodes g
    → sum_where g.nodes set (net g flow)
    ≡ sum_where g.arcs (leaves g set) flow -ℤ sum_where g.arcs (enters g set) flow
set_sends g set flow ends =
    sym (weighed_by_mark g.nodes set (net g flow))
    ∙ (weighed g (mark set) flow ends
    ∙ (sum_to-same g.arcs (λ k. (mark set (g.from k) -ℤ mark set (g.to k)) *ℤ flow k)
    (λ k. cond (leaves g set k) (flow k) (pos 0) -ℤ cond (enters g set k) (flow k) (pos 0))
    (λ k _. crossing (set (g.from k)) (set (g.to k)) (flow k))
    ∙ sum_to-sub g.arcs (λ k. cond (leaves g set k) (flow k) (pos 0))
    (λ k. cond (enters g set k) (flow k) (pos 0))))

-- a set whose leaving arcs are full and whose entering arcs are empty sends out what it can
pub full_side_sends : (g : Numbered) (cap flow : ℕ → ℤ) (set : ℕ → Bool) → EndsAreNodes g
    → ((k : ℕ) → k < g.arcs → leaves g set k ≡ true → flow k ≡ cap k)
    → ((k : ℕ) → k < g.arcs → enters g set k ≡ true → flow k ≡ pos 0)
    → sum_where g.nodes set (net g flow) ≡ sum_where g.arcs (leaves g set) cap
full_side_sends g cap flow set ends full empty =
    let sends = set_sends g set flow ends in
    let out = sum_where-same g.arcs (leaves g set) flow cap full in
    let back = sum_where-same g.arcs (enters g set) flow (λ k. pos 0) empty in
    let none = sum_to-zero g.arcs (λ k. cond (enters g set k) (pos 0) (pos 0))
    (λ k _. zero_either (enters g set k)) in
    omega (arith, ints, sends, out, back, none)
  where
    zero_either : (b : Bool) → cond b (pos 0) (pos 0) ≡ pos 0
    zero_either true = refl
    zero_either false = refl

-- ---- a flow from s to t

-- where a set has s and not t, it sends out what s does
pub side_sends : (g : Numbered) (s t : ℕ) (flow : ℕ → ℤ) (side : ℕ → Bool) → s < g.nodes
    → side s ≡ true → side t ≡ false
    → ((node : ℕ) → node < g.nodes → node ≢ s → node ≢ t → net g flow node ≡ pos 0)
    → sum_where g.nodes side (net g flow) ≡ net g flow s
side_sends g s t flow side l has lacks kept =
    sum_where-one g.nodes s side (net g flow) l has
    (λ v q ne on. kept v q ne (λ is. not_both (sym on ∙ (ap side is ∙ lacks))))
  where
    not_both : true ≡ false → ⊥
    not_both e = cc

pub cuts_are_largest : CutsAreLargest
cuts_are_largest g cap s t flow side value ends l cut other is_flow =
    let sends = side_sends g s t other side l cut.has_s cut.lacks_t is_flow.kept in
    let sum = set_sends g side other ends in
    let out = sum_where-le g.arcs (leaves g side) other cap (λ k q _. is_flow.within_cap k q) in
    let back = sum_where-not_neg g.arcs (enters g side) other (λ k q _. is_flow.at_least_0 k q) in
    let tight = cut.tight in
    omega (arith, ints, sends, sum, out, back, tight)

-- ---- feasible flows

below_upper : (x : ℤ) (bound : Option ℤ) → IsAtMost x bound → bound ≢ None
    → x ≤ℤ unwrap_or bound (pos 0)
below_upper x None h some = absurd (some cc)
below_upper x (Some b) h some = h

module _ (g : Numbered) (bounds : Bounds) (set : ℕ → Bool) (flow : ℕ → ℤ) (ends : EndsAreNodes g)
    (feasible : IsFeasible g bounds flow) where
  -- it sends out what its nodes supply
  pub supplies : sum_where g.nodes set bounds.supply
      ≡ sum_where g.arcs (leaves g set) flow -ℤ sum_where g.arcs (enters g set) flow
  supplies =
      sum_where-same g.nodes set bounds.supply (net g flow) (λ v l _. sym (feasible.supplied v l))
      ∙ set_sends g set flow ends

  most : (test : ℕ → Bool) → ((k : ℕ) → k < g.arcs → test k ≡ true → bounds.upper k ≢ None)
      → sum_where g.arcs test flow ≤ℤ sum_where g.arcs test (upper_of bounds)
  most test bounded =
      sum_where-le g.arcs test flow (upper_of bounds)
      (λ k l on. below_upper (flow k) (bounds.upper k) (feasible.within_upper k l) (bounded k l on))

  least : (test : ℕ → Bool)
      → sum_where g.arcs test bounds.lower ≤ℤ sum_where g.arcs test flow
  least test =
      sum_where-le g.arcs test bounds.lower flow (λ k l _. feasible.above_lower k l)

  pub not_over : (supply limit : ℤ) → IsOver g bounds set supply limit → ⊥
  not_over supply limit over =
      let sum = supplies in
      let out = most (leaves g set) over.bounded in
      let back = least (enters g set) in
      let supply_is = over.supply_is in
      let limit_is = over.limit_is in
      let above = over.above in
      absurd (omega (arith, ints, sum, out, back, supply_is, limit_is, above))

  pub not_under : (supply limit : ℤ) → IsUnder g bounds set supply limit → ⊥
  not_under supply limit under =
      let sum = supplies in
      let out = least (leaves g set) in
      let back = most (enters g set) under.bounded in
      let supply_is = under.supply_is in
      let limit_is = under.limit_is in
      let below = under.below in
      absurd (omega (arith, ints, sum, out, back, supply_is, limit_is, below))

pub barriers_leave_no_flow : BarriersLeaveNoFlow
barriers_leave_no_flow g bounds true set supply limit ends barrier flow feasible =
    not_over g bounds set flow ends feasible supply limit barrier
barriers_leave_no_flow g bounds false set supply limit ends barrier flow feasible =
    not_under g bounds set flow ends feasible supply limit barrier
