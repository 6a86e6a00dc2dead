-- What right reduced costs show: an optimal flow is a cheapest one.
use Rattle.std.proofs.Common.{◌≡◌, ℕ, ℤ, pos, ◌+ℤ◌, ◌-ℤ◌, ◌*ℤ◌, neg_ℤ, ◌≤ℤ◌, ◌<ℤ◌, Option}
use Rattle.std.proofs.Common.{Some, None, sym, ◌∙◌, ap, arith}
use Rattle.std.proofs.lemmas.Int.{ints, by_lt_z}
use Rattle.plain_certificates.specs.Numbered.{Numbered, EndsAreNodes, sum_to, net}
use Rattle.plain_certificates.specs.Feasible.{IsAtMost, IsBelow}
use Rattle.plain_certificates.specs.Cheapest.{cost_of, reduced_cost}
use Rattle.plain_certificates.specs.Laws.{OptimalIsCheapest}
use Rattle.plain_certificates.proofs.Products.{add-mul, neg-mul, mul_le}
use Rattle.plain_certificates.proofs.Sums.{sum_to-same, sum_to-add, sum_to-le}
use Rattle.plain_certificates.proofs.Weights.{weighed}

-- the reduced cost of a flow is its cost and what the potentials weigh of what its nodes send
pub reduced_total : (g : Numbered) (cost pi flow : ℕ → ℤ) → EndsAreNodes g
    → sum_to g.arcs (λ k. reduced_cost g cost pi k *ℤ flow k)
    ≡ cost_of g cost flow +ℤ sum_to g.nodes (λ v. pi v *ℤ net g flow v)
reduced_total g cost pi flow ends =
    let fall = λ (k : ℕ). pi (g.from k) -ℤ pi (g.to k) in
    let sums = sum_to-same g.arcs (λ k. reduced_cost g cost pi k *ℤ flow k)
    (λ k. cost k *ℤ flow k +ℤ fall k *ℤ flow k)
    (λ k _. ap (λ z. z *ℤ flow k) (regroup (cost k) (pi (g.from k)) (pi (g.to k)))
    ∙ add-mul (cost k) (fall k) (flow k)) in
    let parts = sum_to-add g.arcs (λ k. cost k *ℤ flow k) (λ k. fall k *ℤ flow k) in
    let weights = weighed g pi flow ends in
    omega (arith, ints, sums, parts, weights)
  where
    regroup : (c p q : ℤ) → (c +ℤ p) -ℤ q ≡ c +ℤ (p -ℤ q)
    regroup c p q = omega (arith, ints)

-- at a right reduced cost no flow within the bounds costs less on the arc
pub cost_less : (r l x y : ℤ) (u : Option ℤ) → (IsBelow x u → pos 0 ≤ℤ r)
    → (l <ℤ x → r ≤ℤ pos 0) → l ≤ℤ y → IsAtMost y u → (r *ℤ x) ≤ℤ (r *ℤ y)
cost_less r l x y u up down above below =
    by_lt_z x y
    (λ more. mul_le r x y (up (under u more below)) (omega (arith, ints, more)))
    (λ le. by_lt_z y x
    (λ less.
    (let dear : l <ℤ x = omega (arith, ints, above, less) in
    let sign : pos 0 ≤ℤ neg_ℤ r = (let h = down dear in omega (arith, ints, h)) in
    let turned = mul_le (neg_ℤ r) y x sign le in
    let e = neg-mul r x in
    let f = neg-mul r y in
    omega (arith, ints, turned, e, f)))
    (λ ge. (let same : x ≡ y = omega (arith, ints, le, ge) in rw same (omega (arith, ints)))))
  where
    under : (u : Option ℤ) → x <ℤ y → IsAtMost y u → IsBelow x u
    under None more below = tt
    under (Some b) more below = omega (arith, ints)

pub optimal_is_cheapest : OptimalIsCheapest
optimal_is_cheapest g bounds cost flow pi total ends optimal other feasible =
    let reduced = reduced_cost g cost pi in
    let each = sum_to-le g.arcs (λ k. reduced k *ℤ flow k) (λ k. reduced k *ℤ other k)
    (λ k l. cost_less (reduced k) (bounds.lower k) (flow k) (other k) (bounds.upper k)
    (optimal.no_gain k l) (optimal.no_loss k l)
    (feasible.above_lower k l) (feasible.within_upper k l)) in
    let same = sum_to-same g.nodes (λ v. pi v *ℤ net g flow v) (λ v. pi v *ℤ net g other v)
    (λ v l. ap (λ z. pi v *ℤ z) (optimal.feasible.supplied v l ∙ sym (feasible.supplied v l))) in
    let this = reduced_total g cost pi flow ends in
    let that = reduced_total g cost pi other ends in
    let is = optimal.total_is in
    omega (arith, ints, each, same, this, that, is)
