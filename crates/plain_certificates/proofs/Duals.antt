-- What duals show of weighed pairings, and what a set that is short of neighbours shows.
use Rattle.std.proofs.Common.{◌≡◌, Bool, true, false, cond, ℤ, pos, ◌+ℤ◌, ◌*ℤ◌, neg_ℤ, ◌≤ℤ◌}
use Rattle.std.proofs.Common.{refl, ap, ◌∙◌, arith}
use Rattle.std.proofs.lemmas.Int.{ints}
use Rattle.plain_certificates.specs.Pairings.{pairs_at}
use Rattle.plain_certificates.specs.Pairings.{is_neighbour, ends_dual}
use Rattle.plain_certificates.specs.Laws.{HeaviestIsLargest, AssignedIsCheapest, ShortLeavesNoCover}
use Rattle.plain_certificates.proofs.Products.{neg-mul, mul_le}
use Rattle.plain_certificates.proofs.Sums.{sum_to-same, sum_to-le, sum_where-le, mark, marked}
use Rattle.plain_certificates.proofs.Pairs.{bipartite_has_no_loop, weighed_pairs, pairs_pay}
use Rattle.plain_certificates.proofs.Pairs.{near_source, near_target, mark_low}

pub heaviest_is_largest : HeaviestIsLargest
heaviest_is_largest g left weight chosen dual total ends bipartite heaviest other apart =
    let each = sum_where-le g.arcs other weight (ends_dual g dual)
    (λ k l _. heaviest.no_heavier k l) in
    let weights = weighed_pairs g dual other ends (bipartite_has_no_loop g left bipartite) in
    let most = pairs_pay g dual other apart heaviest.at_least_0 in
    let tight = heaviest.tight in
    omega (arith, ints, each, weights, most, tight)

-- where a dual isn't above 0 it counts at most once, and elsewhere exactly once
dual_counts : (b : Bool) (dual pairs : ℤ) → (b ≡ true → pairs ≡ pos 1)
    → (b ≡ false → dual ≤ℤ pos 0) → pairs ≤ℤ pos 1 → dual ≤ℤ (dual *ℤ pairs)
dual_counts true dual pairs one low most =
    let is : dual *ℤ pairs ≡ dual *ℤ pos 1 = ap (λ x. dual *ℤ x) (one refl) in
    let same : dual *ℤ pos 1 ≡ dual = grind (arith, ints) in
    omega (arith, ints, is, same)
dual_counts false dual pairs one low most =
    let sign : pos 0 ≤ℤ neg_ℤ dual = (let h = low refl in omega (arith, ints, h)) in
    let turned = mul_le (neg_ℤ dual) pairs (pos 1) sign most in
    let a = neg-mul dual pairs in
    let b = neg-mul dual (pos 1) in
    let same : dual *ℤ pos 1 ≡ dual = grind (arith, ints) in
    omega (arith, ints, turned, a, b, same)

pub assigned_is_cheapest : AssignedIsCheapest
assigned_is_cheapest g left cost chosen dual total ends bipartite assigned other apart covers =
    let each = sum_where-le g.arcs other (ends_dual g dual) cost
    (λ k l _. assigned.no_cheaper k l) in
    let weights = weighed_pairs g dual other ends (bipartite_has_no_loop g left bipartite) in
    let least = sum_to-le g.nodes dual (λ v. dual v *ℤ pairs_at g other v)
    (λ v l. dual_counts (left v) (dual v) (pairs_at g other v) (covers v l) (assigned.at_most_0 v l)
    (apart v l)) in
    let tight = assigned.tight in
    omega (arith, ints, each, weights, least, tight)

-- ---- short of neighbours

mark-le : (a b : Bool) → (a ≡ true → b ≡ true)
    → cond a (pos 1) (pos 0) ≤ℤ cond b (pos 1) (pos 0)
mark-le true b h = let e = h refl in rw e (omega (arith, ints))
mark-le false true h = omega (arith, ints)
mark-le false false h = omega (arith, ints)

pub short_leaves_no_cover : ShortLeavesNoCover
short_leaves_no_cover g left set ends bipartite short other apart covers =
    let next = is_neighbour g set in
    let no_loop = bipartite_has_no_loop g left bipartite in
    let members = weighed_pairs g (mark set) other ends no_loop in
    let neighbours = weighed_pairs g (mark next) other ends no_loop in
    let each = sum_where-le g.arcs other (λ k. mark set (g.from k) +ℤ mark set (g.to k))
    (λ k. mark next (g.from k) +ℤ mark next (g.to k))
    (λ k l _.
    (let a = mark-le (set (g.from k)) (next (g.to k)) (near_target g set k l) in
    let b = mark-le (set (g.to k)) (next (g.from k)) (near_source g set k l) in
    omega (arith, ints, a, b))) in
    let all = sum_to-same g.nodes (λ v. mark set v *ℤ pairs_at g other v) (mark set)
    (λ v l. counts (set v) (pairs_at g other v) (λ on. covers v l (short.set_left v l on))) in
    let most = pairs_pay g (mark next) other apart (λ v _. mark_low (next v)) in
    let fewer = short.fewer in
    absurd (omega (arith, ints, members, neighbours, each, all, most, fewer))
  where
    counts : (b : Bool) (x : ℤ) → (b ≡ true → x ≡ pos 1)
        → cond b (pos 1) (pos 0) *ℤ x ≡ cond b (pos 1) (pos 0)
    counts b x one = marked b x ∙ same b x one
      where
        same : (b : Bool) (x : ℤ) → (b ≡ true → x ≡ pos 1)
            → cond b x (pos 0) ≡ cond b (pos 1) (pos 0)
        same true x one = one refl
        same false x one = refl
