-- Weights on the nodes against pairings, and what a set of left nodes shows.
use Rattle.std.proofs.Common.{◌≡◌, ◌≢◌, ℕ, ◌<◌, Bool, true, false, ◌&&◌, ◌||◌, not, cond, eqb, ℤ}
use Rattle.std.proofs.Common.{pos, ◌+ℤ◌, ◌*ℤ◌, ◌≤ℤ◌, refl, sym, ap, ◌∙◌, arith}
use Rattle.std.proofs.lemmas.Int.{ints}
use Rattle.std.proofs.lemmas.Bool.Decides.{nat_tests}
use Rattle.plain_certificates.specs.Numbered.{Numbered, EndsAreNodes, sum_to, sum_where}
use Rattle.plain_certificates.specs.Pairings.{IsBipartite, meets, pairs_at, ShareNoNode}
use Rattle.plain_certificates.specs.Pairings.{is_neighbour}
use Rattle.plain_certificates.specs.Laws.{PairingsAreLargest}
use Rattle.plain_certificates.proofs.Products.{mul-add, mul_le}
use Rattle.plain_certificates.proofs.Sums.{sum_to-same, sum_to-add, sum_to-le, sum_where-le, mark}
use Rattle.plain_certificates.proofs.Sums.{any_to-from}
use Rattle.plain_certificates.proofs.Tables.{self_eqb}
use Rattle.plain_certificates.proofs.Weights.{at_end, weighed_by_end}

-- no arc leads from a node to itself
abbrev pub HasNoLoop : Numbered → Type 0
HasNoLoop g = (arc : ℕ) → arc < g.arcs → g.from arc ≢ g.to arc

pub bipartite_has_no_loop : (g : Numbered) (left : ℕ → Bool) → IsBipartite g left → HasNoLoop g
bipartite_has_no_loop g left bipartite arc l same =
    differs (left (g.from arc)) (ap left same ∙ bipartite arc l)
  where
    differs : (b : Bool) → b ≡ not b → ⊥
    differs true e = cc
    differs false e = cc

-- an arc chosen counts at the end that it has at a node
counted : (c a b : Bool) → (a ≡ true → b ≡ true → ⊥)
    → cond (c && (a || b)) (pos 1) (pos 0)
    ≡ cond a (cond c (pos 1) (pos 0)) (pos 0) +ℤ cond b (cond c (pos 1) (pos 0)) (pos 0)
counted true true true h = absurd (h refl refl)
counted true true false h = refl
counted true false true h = refl
counted true false false h = refl
counted false true true h = refl
counted false true false h = refl
counted false false true h = refl
counted false false false h = refl

pairs_by_end : (g : Numbered) (chosen : ℕ → Bool) → HasNoLoop g → (v : ℕ)
    → pairs_at g chosen v
    ≡ at_end g.arcs g.from (mark chosen) v +ℤ at_end g.arcs g.to (mark chosen) v
pairs_by_end g chosen apart v =
    sum_to-same g.arcs (λ k. cond (chosen k && meets g v k) (pos 1) (pos 0))
    (λ k. cond (eqb (g.from k) v) (mark chosen k) (pos 0)
    +ℤ cond (eqb (g.to k) v) (mark chosen k) (pos 0))
    (λ k l. counted (chosen k) (eqb (g.from k) v) (eqb (g.to k) v)
    (λ a b. apart k l (by_eqb (g.from k) v a ∙ sym (by_eqb (g.to k) v b))))
    ∙ sum_to-add g.arcs (λ k. cond (eqb (g.from k) v) (mark chosen k) (pos 0))
    (λ k. cond (eqb (g.to k) v) (mark chosen k) (pos 0))
  where
    by_eqb : (a b : ℕ) → eqb a b ≡ true → a ≡ b
    by_eqb a b e = grind (arith, nat_tests)

-- weights on the nodes against a pairing: the weights of both ends over the arcs chosen
pub weighed_pairs : (g : Numbered) (w : ℕ → ℤ) (chosen : ℕ → Bool) → EndsAreNodes g → HasNoLoop g
    → sum_to g.nodes (λ v. w v *ℤ pairs_at g chosen v)
    ≡ sum_where g.arcs chosen (λ k. w (g.from k) +ℤ w (g.to k))
weighed_pairs g w chosen ends apart =
    let one = mark chosen in
    let out = at_end g.arcs g.from one in
    let back = at_end g.arcs g.to one in
    let parts = sum_to-same g.nodes (λ v. w v *ℤ pairs_at g chosen v)
    (λ v. w v *ℤ out v +ℤ w v *ℤ back v)
    (λ v _. ap (λ x. w v *ℤ x) (pairs_by_end g chosen apart v) ∙ mul-add (w v) (out v) (back v)) in
    let sums = sum_to-add g.nodes (λ v. w v *ℤ out v) (λ v. w v *ℤ back v) in
    let by_source = weighed_by_end g.nodes g.arcs g.from w one (λ k l. (ends k l).0) in
    let by_target = weighed_by_end g.nodes g.arcs g.to w one (λ k l. (ends k l).1) in
    let back_again = sum_to-add g.arcs (λ k. w (g.from k) *ℤ one k) (λ k. w (g.to k) *ℤ one k) in
    let each = sum_to-same g.arcs (λ k. w (g.from k) *ℤ one k +ℤ w (g.to k) *ℤ one k)
    (λ k. cond (chosen k) (w (g.from k) +ℤ w (g.to k)) (pos 0))
    (λ k _. both (chosen k) (w (g.from k)) (w (g.to k))) in
    omega (arith, ints, parts, sums, by_source, by_target, back_again, each)
  where
    both : (b : Bool) (x y : ℤ)
        → x *ℤ cond b (pos 1) (pos 0) +ℤ y *ℤ cond b (pos 1) (pos 0) ≡ cond b (x +ℤ y) (pos 0)
    both true x y = grind (arith, ints)
    both false x y = grind (arith, ints)

-- weights of at least 0 pay for a pairing
pub pairs_pay : (g : Numbered) (w : ℕ → ℤ) (chosen : ℕ → Bool) → ShareNoNode g chosen
    → ((v : ℕ) → v < g.nodes → pos 0 ≤ℤ w v)
    → sum_to g.nodes (λ v. w v *ℤ pairs_at g chosen v) ≤ℤ sum_to g.nodes w
pairs_pay g w chosen apart low =
    sum_to-le g.nodes (λ v. w v *ℤ pairs_at g chosen v) w
    (λ v l.
    (let bound = mul_le (w v) (pairs_at g chosen v) (pos 1) (low v l) (apart v l) in
    let one : w v *ℤ pos 1 ≡ w v = grind (arith, ints) in
    omega (arith, ints, bound, one)))

-- ---- the bound of a set of left nodes

pub mark_low : (b : Bool) → pos 0 ≤ℤ cond b (pos 1) (pos 0)
mark_low true = omega (arith, ints)
mark_low false = omega (arith, ints)

-- a left node is outside the set, or what it is joined to is a neighbour of it
left_pays : (l h n : Bool) → l ≡ true → (h ≡ true → n ≡ true)
    → pos 1 ≤ℤ (cond (l && not h) (pos 1) (pos 0) +ℤ cond n (pos 1) (pos 0))
left_pays true true true is near = omega (arith, ints)
left_pays true true false is near = absurd (let e : false ≡ true = near refl in cc)
left_pays true false true is near = omega (arith, ints)
left_pays true false false is near = omega (arith, ints)
left_pays false h n is near = absurd cc

both_true : (a b c : Bool) → a ≡ true → b ≡ true → ((a && b) || c) ≡ true
both_true true true c p q = refl
both_true true false c p q = absurd cc
both_true false b c p q = absurd cc

other_true : (a b c : Bool) → b ≡ true → c ≡ true → (a || (b && c)) ≡ true
other_true true b c p q = refl
other_true false true true p q = refl
other_true false true false p q = absurd cc
other_true false false c p q = absurd cc

abbrev outside : (ℕ → Bool) → (ℕ → Bool) → ℕ → Bool
outside left hall node = left node && not (hall node)

-- 1 at each left node outside the set, and 1 at each neighbour of it
abbrev hall_weight : Numbered → (ℕ → Bool) → (ℕ → Bool) → ℕ → ℤ
hall_weight g left hall node = mark (outside left hall) node +ℤ mark (is_neighbour g hall) node

hall_weight_low : (g : Numbered) (left hall : ℕ → Bool) (node : ℕ)
    → pos 0 ≤ℤ hall_weight g left hall node
hall_weight_low g left hall node =
    let a = mark_low (outside left hall node) in
    let b = mark_low (is_neighbour g hall node) in
    omega (arith, ints, a, b)

-- a left node and what an arc joins it to weigh at least 1
ends_pay : (g : Numbered) (left hall : ℕ → Bool) (u v : ℕ) → left u ≡ true
    → (hall u ≡ true → is_neighbour g hall v ≡ true)
    → pos 1 ≤ℤ (hall_weight g left hall u +ℤ hall_weight g left hall v)
ends_pay g left hall u v is near =
    let pays = left_pays (left u) (hall u) (is_neighbour g hall v) is near in
    let a = mark_low (is_neighbour g hall u) in
    let b = mark_low (outside left hall v) in
    omega (arith, ints, pays, a, b)

-- each end of an arc is a neighbour of a set that has the other
module _ (g : Numbered) (set : ℕ → Bool) (k : ℕ) (l : k < g.arcs) where
  pub near_target : set (g.from k) ≡ true → is_neighbour g set (g.to k) ≡ true
  near_target on =
      any_to-from g.arcs k
      (λ j. (set (g.from j) && eqb (g.to j) (g.to k)) || (set (g.to j) && eqb (g.from j) (g.to k)))
      l (both_true (set (g.from k)) (eqb (g.to k) (g.to k)) _ on (self_eqb (g.to k)))

  pub near_source : set (g.to k) ≡ true → is_neighbour g set (g.from k) ≡ true
  near_source on =
      any_to-from g.arcs k
      (λ j. (set (g.from j) && eqb (g.to j) (g.from k)) ||
      (set (g.to j) && eqb (g.from j) (g.from k)))
      l (other_true _ (set (g.to k)) (eqb (g.from k) (g.from k)) on (self_eqb (g.from k)))

arc_pays : (g : Numbered) (left hall : ℕ → Bool) → IsBipartite g left → (k : ℕ) → k < g.arcs
    → pos 1 ≤ℤ (hall_weight g left hall (g.from k) +ℤ hall_weight g left hall (g.to k))
arc_pays g left hall bipartite k l = either (left (g.from k)) refl
  where
    either : (b : Bool) → left (g.from k) ≡ b
        → pos 1 ≤ℤ (hall_weight g left hall (g.from k) +ℤ hall_weight g left hall (g.to k))
    either true is = ends_pay g left hall (g.from k) (g.to k) is (near_target g hall k l)
    either false is =
        let pays = ends_pay g left hall (g.to k) (g.from k) (bipartite k l ∙ ap not is)
        (near_source g hall k l) in
        omega (arith, ints, pays)

pub pairings_are_largest : PairingsAreLargest
pairings_are_largest g left chosen hall ends bipartite pairing other apart =
    let weight = hall_weight g left hall in
    let each = sum_where-le g.arcs other (λ k. pos 1) (λ k. weight (g.from k) +ℤ weight (g.to k))
    (λ k l _. arc_pays g left hall bipartite k l) in
    let weights = weighed_pairs g weight other ends (bipartite_has_no_loop g left bipartite) in
    let most = pairs_pay g weight other apart (λ v _. hall_weight_low g left hall v) in
    let parts = sum_to-add g.nodes (mark (outside left hall)) (mark (is_neighbour g hall)) in
    let tight = pairing.tight in
    omega (arith, ints, each, weights, most, parts, tight)
