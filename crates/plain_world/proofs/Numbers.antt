-- What is made of numbers by functions that agree on them.
use Rattle.std.proofs.Common.{◌≡◌, ℕ, zero, suc, ◌+◌, ◌<◌, ℤ, Bool, true, false, cond, not, refl}
use Rattle.std.proofs.Common.{sym, ◌∙◌, ap, ◌∷◌, map, filter, arith}
use Rattle.std.specs.Prelude.{pos, ◌==◌, ◌&&◌, ◌*ℤ◌, ◌-ℤ◌}
use Rattle.std.specs.List.{range_with_len}
use Rattle.plain_views.proofs.Towered.{tower_is_shown}
use Rattle.plain_certificates.specs.Numbered.{Numbered, EndsAreNodes, sum_where, net}
use Rattle.plain_certificates.specs.Cuts.{leaves, enters}
use Rattle.plain_certificates.specs.Cheapest.{cost_of}
use Rattle.plain_certificates.specs.Feasible.{Bounds, IsBarrier, upper_of}
use Rattle.plain_certificates.proofs.Sums.{sum_to-same}
use Rattle.plain_certificates.proofs.Numbering.{numbered_has_ends}
use Rattle.plain_digraph.specs.Valid as digraph
use Rattle.plain_world.specs.Tables.{Name}
use Rattle.plain_world.specs.World.{World}
use Rattle.plain_world.specs.Views.{values_of, tower_of, shown_by}
use Rattle.plain_world.specs.Queries.{graph}
use Rattle.plain_world.specs.Choices.{Same}

-- ---- lists

-- those that are chosen, and what is made of each
picked : {X : Type 0} (test other_test : ℕ → Bool) (make other : ℕ → X) (a n : ℕ)
    → ((k : ℕ) → k < a + n → test k ≡ other_test k) → ((k : ℕ) → k < a + n → make k ≡ other k)
    → map make (filter test (range_with_len a n))
    ≡ map other (filter other_test (range_with_len a n))
picked test other_test make other a zero tests makes = refl
picked test other_test make other a (suc n) tests makes =
    let rest = filter test (range_with_len (a + 1) n) in
    let rest_b = filter other_test (range_with_len (a + 1) n) in
    let more = picked test other_test make other (a + 1) n
    (λ k below. tests k (omega (arith, below))) (λ k below. makes k (omega (arith, below))) in
    let same = tests a (omega arith) in
    let made = makes a (omega arith) in
    ap (λ b. map make (cond b (a ∷ rest) rest)) same
    ∙ elim (other_test a) as (λ b. map make (cond b (a ∷ rest) rest)
    ≡ map other (cond b (a ∷ rest_b) rest_b)) [
      | true ↦ λ i. made i ∷ more i
      | false ↦ more
    ]

pub picked_alike : {X : Type 0} (test other_test : ℕ → Bool) (make other : ℕ → X) (n : ℕ)
    → Same n test other_test → Same n make other
    → map make (filter test (range_with_len 0 n))
    ≡ map other (filter other_test (range_with_len 0 n))
picked_alike test other_test make other n tests makes =
    picked test other_test make other 0 n (λ k below. tests k (omega (arith, below)))
    (λ k below. makes k (omega (arith, below)))

made : {X : Type 0} (make other : ℕ → X) (a n : ℕ)
    → ((k : ℕ) → k < a + n → make k ≡ other k)
    → map make (range_with_len a n) ≡ map other (range_with_len a n)
made make other a zero makes = refl
made make other a (suc n) makes =
    let more = made make other (a + 1) n (λ k below. makes k (omega (arith, below))) in
    let here = makes a (omega arith) in
    λ i. here i ∷ more i

pub made_alike : {X : Type 0} (make other : ℕ → X) (n : ℕ) → Same n make other
    → map make (range_with_len 0 n) ≡ map other (range_with_len 0 n)
made_alike make other n makes = made make other 0 n (λ k below. makes k (omega (arith, below)))

-- ---- sums

pub chosen_sum : (n : ℕ) (test other : ℕ → Bool) (term : ℕ → ℤ) → Same n test other
    → sum_where n test term ≡ sum_where n other term
chosen_sum n test other term same =
    sum_to-same n (λ k. cond (test k) (term k) (pos 0)) (λ k. cond (other k) (term k) (pos 0))
    (λ k below. ap (λ b. cond b (term k) (pos 0)) (same k below))

pub term_sum : (n : ℕ) (test : ℕ → Bool) (term other : ℕ → ℤ) → Same n term other
    → sum_where n test term ≡ sum_where n test other
term_sum n test term other same =
    sum_to-same n (λ k. cond (test k) (term k) (pos 0)) (λ k. cond (test k) (other k) (pos 0))
    (λ k below. ap (λ x. cond (test k) x (pos 0)) (same k below))

pub net_alike : (g : Numbered) (flow other : ℕ → ℤ) (node : ℕ) → Same g.arcs flow other
    → net g flow node ≡ net g other node
net_alike g flow other node same =
    let out = term_sum g.arcs (λ arc. g.from arc == node) flow other same in
    let in_ = term_sum g.arcs (λ arc. g.to arc == node) flow other same in
    λ i. out i -ℤ in_ i

pub cost_alike : (g : Numbered) (cost flow other : ℕ → ℤ) → Same g.arcs flow other
    → cost_of g cost flow ≡ cost_of g cost other
cost_alike g cost flow other same =
    sum_to-same g.arcs (λ k. cost k *ℤ flow k) (λ k. cost k *ℤ other k)
    (λ k below. ap (λ x. cost k *ℤ x) (same k below))

-- ---- barriers

module _ (g : Numbered) (ends : EndsAreNodes g) (set other : ℕ → Bool)
    (same : Same g.nodes set other)
  where
    leaves_alike : Same g.arcs (leaves g set) (leaves g other)
    leaves_alike arc below =
        let from = same (g.from arc) (ends arc below).0 in
        let to = same (g.to arc) (ends arc below).1 in
        λ i. from i && not (to i)

    enters_alike : Same g.arcs (enters g set) (enters g other)
    enters_alike arc below =
        let from = same (g.from arc) (ends arc below).0 in
        let to = same (g.to arc) (ends arc below).1 in
        λ i. not (from i) && to i

    pub barrier_alike : (bounds : Bounds) (over over_b : Bool) (supply limit supply_b limit_b : ℤ)
        → over ≡ over_b → IsBarrier g bounds over set supply limit
        → IsBarrier g bounds over_b other supply_b limit_b
        → (supply ≡ supply_b) × (limit ≡ limit_b)
    barrier_alike bounds true true supply limit supply_b limit_b is one two =
        let out = chosen_sum g.arcs (leaves g set) (leaves g other) (upper_of bounds)
        leaves_alike in
        let in_ = chosen_sum g.arcs (enters g set) (enters g other) bounds.lower enters_alike in (
          one.supply_is ∙ (chosen_sum g.nodes set other bounds.supply same ∙ sym two.supply_is),
          one.limit_is ∙ ((λ i. out i -ℤ in_ i) ∙ sym two.limit_is),
        )
    barrier_alike bounds false false supply limit supply_b limit_b is one two =
        let out = chosen_sum g.arcs (leaves g set) (leaves g other) bounds.lower leaves_alike in
        let in_ = chosen_sum g.arcs (enters g set) (enters g other) (upper_of bounds)
        enters_alike in (
          one.supply_is ∙ (chosen_sum g.nodes set other bounds.supply same ∙ sym two.supply_is),
          one.limit_is ∙ ((λ i. out i -ℤ in_ i) ∙ sym two.limit_is),
        )
    barrier_alike bounds true false supply limit supply_b limit_b is one two = absurd (unlike is)
      where
        unlike : true ≡ false → ⊥
        unlike e = cc
    barrier_alike bounds false true supply limit supply_b limit_b is one two = absurd (unlike is)
      where
        unlike : false ≡ true → ⊥
        unlike e = cc

-- the ends of the numbered arcs of a view are nodes
pub ends_ok : (world : World) (view : Name) → digraph.IsValid world.graph
    → EndsAreNodes (graph world view)
ends_ok world view valid =
    numbered_has_ends (shown_by world view)
    (tower_is_shown Name (values_of world) world.graph valid (tower_of world view))
