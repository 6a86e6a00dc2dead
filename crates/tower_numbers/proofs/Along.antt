-- How large the sum of a cycle can be.
use Rattle.std.proofs.Common.{◌≡◌, ℕ, suc, ◌*◌, ◌<◌, ◌≤◌, ◌^◌, true, ℤ, pos, neg_ℤ, ◌≤ℤ◌}
use Rattle.std.proofs.Common.{List, [], ◌∷◌, length, All, arith, refl, sym, ◌∙◌, ◌⊎◌, inl, inr}
use Rattle.std.proofs.Common.{eqb, Bool, false}
use Rattle.std.specs.Prelude.{◌||◌}
use Rattle.std.specs.List.{list_any}
use Rattle.std.proofs.lemmas.Int.{ints}
use Rattle.std.proofs.lemmas.Bool.{eqb-true, eq-eqb, true≢false, cases_order}
use Rattle.std.proofs.lemmas.Map.Keys.{apart_from_distinct}
use Rattle.std.proofs.lemmas.Map.Steps.{length-le_from_distinct_below}
use Rattle.plain_certificates.specs.Numbered.{Numbered}
use Rattle.plain_certificates.specs.Tables.{at}
use Rattle.plain_certificates.specs.Walks.{IsCycle, IsWalk, along, start_of}
use Rattle.task_bounds.specs.Given.{IsValue}
use Rattle.view_numbers.proofs.Rounds.{walk_inside}

-- the sum of some values is at most as many times the limit
along_within : (value : ℕ → ℤ) (arcs : List ℕ)
    → ((k : ℕ) → k < length arcs → IsValue (value (at 0 arcs k)))
    → (neg_ℤ (pos (2 ^ 36 * length arcs)) ≤ℤ along value arcs)
    × (along value arcs ≤ℤ pos (2 ^ 36 * length arcs))
along_within value [] small = (omega (arith, ints), omega (arith, ints))
along_within value (arc ∷ arcs) small =
    let rest = along_within value arcs (λ k below. small (suc k) (omega (arith, below))) in
    let here = small 0 (omega arith) in
    let low = rest.0 in
    let high = rest.1 in
    let down = here.0 in
    let up = here.1 in
    (omega (arith, ints, low, down), omega (arith, ints, high, up))

walk_members : (g : Numbered) (arcs : List ℕ) (u v q : ℕ) → IsWalk g u arcs v
    → list_any (eqb q) arcs ≡ true → q < g.arcs
walk_members g [] u v q walk there = absurd cc
walk_members g (arc ∷ arcs) u v q walk there =
    by (eqb q arc) refl there (walk_members g arcs (g.to arc) v q walk.2)
  where
    by : (b : Bool) → eqb q arc ≡ b → (b || list_any (eqb q) arcs) ≡ true
        → (list_any (eqb q) arcs ≡ true → q < g.arcs) → q < g.arcs
    by true is there rest =
        let here = walk.0 in let same = eqb-true q arc is in omega (arith, here, same)
    by false is there rest = rest there

-- a cycle has at most as many arcs as there are
cycle_short : (g : Numbered) (cycle : List ℕ) → IsCycle g cycle → length cycle ≤ g.arcs
cycle_short g cycle is =
    length-le_from_distinct_below cycle g.arcs is.differ
    (λ q there. walk_members g cycle (start_of g cycle) (start_of g cycle) q is.closed there)

-- different places of a cycle have different arcs
pub cycle_differs : (g : Numbered) (cycle : List ℕ) → IsCycle g cycle → (j k : ℕ)
    → j < length cycle → k < length cycle → at 0 cycle j ≡ at 0 cycle k → j ≡ k
cycle_differs g cycle is j k low high same = by (cases_order j k)
  where
    apart : (j k : ℕ) → j < k → k < length cycle → at 0 cycle j ≡ at 0 cycle k → ⊥
    apart j k less high same =
        true≢false (sym (eq-eqb (at 0 cycle j) (at 0 cycle k) same)
        ∙ apart_from_distinct eqb cycle j k 0 is.differ less high)

    by : (j ≡ k) ⊎ ((j < k) ⊎ (k < j)) → j ≡ k
    by (inl is) = is
    by (inr (inl less)) = absurd (apart j k less high same)
    by (inr (inr more)) = absurd (apart k j more low (sym same))

pub cycle_members : (g : Numbered) (cycle : List ℕ) → IsCycle g cycle → (k : ℕ)
    → k < length cycle → at 0 cycle k < g.arcs
cycle_members g cycle is k below =
    walk_inside g cycle (start_of g cycle) (start_of g cycle) k is.closed below

module _ (g : Numbered) (values : List ℤ) (cycle : List ℕ) (is : IsCycle g cycle)
    (all : length values ≡ g.arcs) (small : All IsValue values) where
  -- the sum of values of so few arcs
  pub cycle_fits : g.arcs ≤ 4194304
      → (neg_ℤ (pos (2 ^ 62)) ≤ℤ along (at (pos 0) values) cycle)
      × (along (at (pos 0) values) cycle ≤ℤ pos (2 ^ 62))
  cycle_fits few =
      let within = along_within (at (pos 0) values) cycle
      (λ k below. (let inside = cycle_members g cycle is k below in
      small (at 0 cycle k) (pos 0) (omega (arith, inside, all)))) in
      let short = cycle_short g cycle is in
      let low = within.0 in
      let high = within.1 in
      (omega (arith, ints, low, short, few), omega (arith, ints, high, short, few))
