-- Rounds of paces that all lead along arcs as they go, which are cycles of arcs.
use Rattle.std.proofs.Common.{◌≡◌, inl, inr, ℕ, ◌<◌, ◌^◌, true, false, ℤ, pos, ◌<ℤ◌}
use Rattle.std.proofs.Common.{List, [], ◌∷◌, All, refl, sym, ◌∙◌, ap, subst, arith}
use Rattle.std.specs.List.{list_all}
use Rattle.std.proofs.lemmas.Bool.Decides.{nat_tests}
use Rattle.std.proofs.lemmas.List.Elements.{All-head, All-tail, All-weaker}
use Rattle.std.proofs.lemmas.List.Sums.{AllPass-from_list_all}
use Rattle.plain_certificates.proofs.Trails.{along_onward}
use Rattle.plain_certificates.proofs.Walks.{walk_starts}
use Rattle.plain_certificates.specs.Numbered.{Numbered}
use Rattle.plain_certificates.specs.Pushes.{all_onward, along_trail}
use Rattle.plain_certificates.specs.Walks.{Differ, IsCycle, IsTrail, IsWalk, Pace, along, arcs_of}
use Rattle.pace_search.proofs.Marks.{leq_or}
use Rattle.pace_search.proofs.PaceWalks.{pace_ahead, pace_back}
use Rattle.pace_search.specs.Answers.{HasNoTurn, IsNegativeRound}
use Rattle.pace_search.specs.Paces.{pace_at, paces_at}
use Rattle.task_bounds.specs.Answers.{IsFree}
use Rattle.flow_mincost.specs.Rooms.{is_open}

module _ (g : Numbered) where
  abbrev pub IsArc : ℕ → Type 0
  IsArc k = k < g.arcs

  pub paces_onward : (ks : List ℕ) → All IsArc ks → paces_at g ks ≡ all_onward ks
  paces_onward [] all = refl
  paces_onward (k ∷ ks) all =
      let rest = paces_onward ks (All-tail IsArc k ks all) in
      ap (λ (p : Pace). p ∷ paces_at g ks) (pace_ahead g k (All-head IsArc k ks all))
      ∙ ap (λ (ps : List Pace). record { arc = k; onward = true } ∷ ps) rest

  arcs_onward : (ks : List ℕ) → arcs_of (all_onward ks) ≡ ks
  arcs_onward [] = refl
  arcs_onward (k ∷ ks) = ap (λ (js : List ℕ). k ∷ js) (arcs_onward ks)

  walk_onward : (ks : List ℕ) (u v : ℕ) → IsTrail g u (all_onward ks) v → IsWalk g u ks v
  walk_onward [] u v trail = trail
  walk_onward (k ∷ ks) u v trail = (trail.0, trail.1, walk_onward ks (g.to k) v trail.2)

  pub walk_of : (ks : List ℕ) (u v : ℕ) → All IsArc ks → IsTrail g u (paces_at g ks) v
      → IsWalk g u ks v
  walk_of ks u v all trail =
      walk_onward ks u v
      (subst (λ (ps : List Pace). IsTrail g u ps v) (paces_onward ks all) trail)

  pub along_of : (value : ℕ → ℤ) (ks : List ℕ) → All IsArc ks
      → along_trail value (paces_at g ks) ≡ along value ks
  along_of value ks all = ap (along_trail value) (paces_onward ks all) ∙ along_onward value ks

  -- they are a cycle
  module _ (len : ℕ → ℤ) (round : List ℕ) (is : IsNegativeRound g len round)
      (turns : HasNoTurn g len) (all : All IsArc round) where
    cycle_of : IsCycle g round
    cycle_of =
        let walk = walk_of round is.node is.node all is.closed in
        let starts = walk_starts g is.node is.node round is.nonempty walk in
        record {
          nonempty = is.nonempty;
          differ = subst Differ (ap arcs_of (paces_onward round all) ∙ arcs_onward round)
              (is.arcs_differ turns);
          closed = subst (λ v. IsWalk g v round v) (sym starts) walk;
          least_first = is.least_first;
        }

    -- a free one where none of its arcs has an upper bound and a unit round it costs less than 0
    pub free_round : (cap : ℕ → ℕ) (cost : ℕ → ℤ) → All (λ k. cap k ≡ 2 ^ 62) round
        → along cost round <ℤ pos 0 → IsFree g cap cost round
    free_round cap cost open_caps less = record {
      is_cycle = cycle_of;
      roomy = λ k d l.
          (let cap_is = open_caps k d l in (all k d l, omega (arith, cap_is)));
      negative = less;
    }

-- a pace along an arc without an upper bound
open_pace : (g : Numbered) (cap : ℕ → ℕ) (k : ℕ) → is_open cap (pace_at g k) ≡ true
    → (k < g.arcs) × (cap k ≡ 2 ^ 62)
open_pace g cap k is = elim (leq_or g.arcs k) [
  | inl high ↦ absurd (let e = subst (λ p. is_open cap p ≡ true) (pace_back g k high) is in no e)
  | inr low ↦
      (let e = subst (λ p. is_open cap p ≡ true) (pace_ahead g k low) is in
      (low, grind (arith, nat_tests, e)))
]
  where
    no : false ≡ true → ⊥
    no e = cc

pub open_paces : (g : Numbered) (cap : ℕ → ℕ) (ks : List ℕ)
    → list_all (λ k. is_open cap (pace_at g k)) ks ≡ true
    → All (λ k. (k < g.arcs) × (cap k ≡ 2 ^ 62)) ks
open_paces g cap ks all =
    All-weaker (λ k. is_open cap (pace_at g k) ≡ true)
    (λ k. (k < g.arcs) × (cap k ≡ 2 ^ 62)) (open_pace g cap) ks
    (AllPass-from_list_all (λ k. is_open cap (pace_at g k)) ks all)
