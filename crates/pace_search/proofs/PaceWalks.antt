-- Walks of paces by number are trails.
use Rattle.std.proofs.Common.{◌≡◌, ◌≢◌, ◌⊎◌, inl, inr, ℕ, ◌*◌, ◌<◌, ◌≤◌, ◌-◌, true, false}
use Rattle.std.proofs.Common.{List, [], ◌∷◌, map, refl, arith}
use Rattle.std.specs.List.{IsDistinct, AllByRecursion}
use Rattle.std.specs.Prelude.{nat_lt}
use Rattle.std.proofs.Common.{eqb}
use Rattle.std.proofs.lemmas.Bool.Decides.{nat_tests}
use Rattle.plain_certificates.specs.Numbered.{Numbered, EndsAreNodes}
use Rattle.plain_certificates.specs.Walks.{Differ, IsWalk, IsTrail, Pace}
use Rattle.pace_search.specs.Paces.{pace_at, paces_at, pace_graph}
use Rattle.pace_search.proofs.Marks.{leq_or}

pub is_ahead : (g : Numbered) (k : ℕ) → k < g.arcs → nat_lt k g.arcs ≡ true
is_ahead g k l = grind (arith, nat_tests)

pub is_back : (g : Numbered) (k : ℕ) → g.arcs ≤ k → nat_lt k g.arcs ≡ false
is_back g k l = grind (arith, nat_tests)

pub pace_ahead : (g : Numbered) (k : ℕ) → k < g.arcs
    → pace_at g k ≡ record { arc = k; onward = true }
pace_ahead g k l = rw (is_ahead g k l) refl

pub pace_back : (g : Numbered) (k : ℕ) → g.arcs ≤ k
    → pace_at g k ≡ record { arc = k - g.arcs; onward = false }
pace_back g k l = rw (is_back g k l) refl

pub arc_known : (g : Numbered) (k : ℕ) → k < 2 * g.arcs → (pace_at g k).arc < g.arcs
arc_known g k l = either (leq_or g.arcs k)
  where
    either : (g.arcs ≤ k) ⊎ (k < g.arcs) → (pace_at g k).arc < g.arcs
    either (inl high) = rw (is_back g k high) (omega (arith, high, l))
    either (inr low) = rw (is_ahead g k low) low

-- their ends are nodes
pub pace_nodes : (g : Numbered) (count : ℕ) → count ≤ 2 * g.arcs → EndsAreNodes g
    → EndsAreNodes (pace_graph g count)
pace_nodes g count known ends k l = either (leq_or g.arcs k)
  where
    either : (g.arcs ≤ k) ⊎ (k < g.arcs)
        → ((pace_graph g count).from k < g.nodes) × ((pace_graph g count).to k < g.nodes)
    either (inl high) =
        let e = ends (k - g.arcs) (omega (arith, high, l, known)) in
        rw (is_back g k high) (e.1, e.0)
    either (inr low) = rw (is_ahead g k low) (ends k low)

pub trail_of : (g : Numbered) (count : ℕ) → count ≤ 2 * g.arcs → (u v : ℕ) (ks : List ℕ)
    → IsWalk (pace_graph g count) u ks v → IsTrail g u (paces_at g ks) v
trail_of g count known u v [] walk = walk
trail_of g count known u v (k ∷ ks) walk = (
  (let l = walk.0 in arc_known g k (omega (arith, l, known))),
  walk.1,
  trail_of g count known ((pace_graph g count).to k) v ks walk.2,
)

-- ---- numbers that differ

-- what something tells apart of numbers that differ
module _ (P : ℕ → Type 0) (part : Pace → ℕ) (g : Numbered)
    (apart : (j k : ℕ) → P j → P k → j ≢ k → part (pace_at g j) ≢ part (pace_at g k)) where
  none_is : (k : ℕ) (ks : List ℕ) → P k → AllByRecursion P ks
      → AllByRecursion (λ j. eqb k j ≡ false) ks
      → AllByRecursion (λ x. eqb (part (pace_at g k)) x ≡ false) (map part (paces_at g ks))
  none_is k [] p all off = tt
  none_is k (j ∷ ks) p all off = (
    (let ne : k ≢ j = grind (arith, nat_tests, off.0) in
        let other = apart k j p all.0 ne in
        grind (arith, nat_tests, other)),
    none_is k ks p all.1 off.1,
  )

  pub parts_differ : (ks : List ℕ) → AllByRecursion P ks → Differ ks
      → Differ (map part (paces_at g ks))
  unfolding IsDistinct
  parts_differ [] all differ = tt
  parts_differ (k ∷ ks) all differ =
      (none_is k ks all.0 all.1 differ.0, parts_differ ks all.1 differ.1)
