-- Distances are least lengths of walks, and a negative cycle leaves none.
use Rattle.std.proofs.Common.{◌≡◌, inl, inr, ℕ, zero, suc, ◌<◌, true, eqb, ℤ, pos, ◌+ℤ◌, ◌≤ℤ◌}
use Rattle.std.proofs.Common.{List, [], ◌∷◌, ◌++◌, Option, Some, None, refl, sym, ◌∙◌, ap, arith}
use Rattle.std.proofs.lemmas.Int.{ints}
use Rattle.std.proofs.lemmas.Bool.Decides.{nat_tests, eqb_tells}
use Rattle.plain_certificates.specs.Numbered.{Numbered, EndsAreNodes}
use Rattle.plain_certificates.specs.Walks.{IsWalk, along, start_of}
use Rattle.plain_certificates.specs.Paths.{IsNoFurther, leads_back, IsPaths}
use Rattle.plain_certificates.specs.Laws.{DistancesAreLeast, OthersAreUnreached}
use Rattle.plain_certificates.specs.Laws.{NegativeCyclesLeaveNoLeast, PathsOrCycle}
use Rattle.plain_certificates.proofs.Walks.{walk-append, along-append}

some_same : (a b : ℤ) → Some a ≡ Some b → a ≡ b
some_same a b q = cc

-- an arc leads on to a node with a distance
step_on : (a b : Option ℤ) (d l : ℤ) → a ≡ Some d → IsNoFurther a b l
    → (e : ℤ) × (b ≡ Some e) × (e ≤ℤ (d +ℤ l))
step_on None b d l h f = absurd cc
step_on (Some c) None d l h f = absurd f
step_on (Some c) (Some e) d l h f =
    let is : c ≡ d = some_same c d h in (e, refl, rw (← is) f)

module _ (g : Numbered) (length : ℕ → ℤ) (start : ℕ) (dist : ℕ → Option ℤ) (via : ℕ → Option ℕ)
    (paths : IsPaths g length start dist via) where
  -- a walk from a node with a distance ends at one, no further than the walk is long
  pub walk_no_further : (walk : List ℕ) (u v : ℕ) (d : ℤ) → dist u ≡ Some d → IsWalk g u walk v
      → (e : ℤ) × (dist v ≡ Some e) × (e ≤ℤ (d +ℤ along length walk))
  walk_no_further [] u v d h w = (d, sym (ap dist w) ∙ h, omega (arith, ints))
  walk_no_further (k ∷ ks) u v d h w =
      let here = ap dist w.1 ∙ h in
      let on = step_on (dist (g.from k)) (dist (g.to k)) d (length k) here
      (paths.no_further k w.0) in
      let rest = walk_no_further ks (g.to k) v on.0 on.1 w.2 in
      let a = on.2 in
      let b = rest.2 in
      (rest.0, rest.1, omega (arith, ints, a, b))

  -- a walk of just this length
  record HasWalk (node : ℕ) (d : ℤ) : Type 0 where
    walk : List ℕ
    leads : IsWalk g start walk node
    is_long : along length walk ≡ d

  at_start : (node : ℕ) (d : ℤ) → dist node ≡ Some d → node ≡ start → HasWalk node d
  at_start node d h is = record {
    walk = [];
    leads = sym is;
    is_long = some_same (pos 0) d (sym paths.at_start ∙ (ap dist (sym is) ∙ h));
  }

  -- going back along via makes a walk
  walk_back : EndsAreNodes g → (n node : ℕ) (d : ℤ) → node < g.nodes → dist node ≡ Some d
      → leads_back g via start n node ≡ true → HasWalk node d
  walk_back ends zero node d l h leads = at_start node d h (by_eqb node start leads)
    where
      by_eqb : (u v : ℕ) → eqb u v ≡ true → u ≡ v
      by_eqb u v e = grind (arith, nat_tests)
  walk_back ends (suc n) node d l h leads =
      elim (eqb_tells node start) [
        | inl e ↦ at_start node d h e.1
        | inr e ↦
            (let last = paths.last node d l e.1 h in
            let arc = last.0 in
            let by = last.2 in
            let back : leads_back g via start n (g.from arc) ≡ true =
            (let is = last.1 in let off = e.0 in grind (arith, is, off, leads)) in
            let inside = (ends arc by.within).0 in
            let before = walk_back ends n (g.from arc) by.source inside by.source_is back in
            let one : IsWalk g (g.from arc) (arc ∷ []) node = (by.within, refl, by.ends) in
            let sum = along-append length before.walk (arc ∷ []) in
            let was = before.is_long in
            let adds = by.adds_up in
            record {
              walk = before.walk ++ (arc ∷ []);
              leads = walk-append g start (g.from arc) node before.walk (arc ∷ []) before.leads one;
              is_long = omega (arith, ints, sum, was, adds);
            })
      ]

pub distances_are_least : DistancesAreLeast
distances_are_least g length start dist via ends paths node d l h =
    let back = walk_back g length start dist via paths ends g.nodes node d l h
    (paths.back node d l h) in
    record {
      walk = back.walk;
      reached = back.leads;
      is_long = back.is_long;
      least = λ other leads.
          (let on = walk_no_further g length start dist via paths other start node (pos 0)
          paths.at_start leads in
          let is : on.0 ≡ d = some_same on.0 d (sym on.1 ∙ h) in
          let bound = on.2 in
          omega (arith, ints, is, bound));
    }

pub others_are_unreached : OthersAreUnreached
others_are_unreached g length start dist via paths node walk none leads =
    let on = walk_no_further g length start dist via paths walk start node (pos 0)
    paths.at_start leads in
    not_both on.0 (sym on.1 ∙ none)
  where
    not_both : (d : ℤ) → Some d ≡ None → ⊥
    not_both d e = cc

pub negative_cycles_leave_no_least : NegativeCyclesLeaveNoLeast
negative_cycles_leave_no_least g length start cycle negative = record {
  walk = negative.walk;
  reached = negative.reached;
  none = λ other leads. record {
    walk = other ++ cycle;
    reached = walk-append g start (start_of g cycle) (start_of g cycle) other cycle leads
        negative.is_cycle.closed;
    shorter =
        (let sum = along-append length other cycle in
        let less = negative.negative in
        omega (arith, ints, sum, less));
  };
}

pub paths_or_cycle : PathsOrCycle
paths_or_cycle g length start dist via cycle paths negative =
    let first = start_of g cycle in
    let there = walk_no_further g length start dist via paths negative.walk start first (pos 0)
    paths.at_start negative.reached in
    let round = walk_no_further g length start dist via paths cycle first first there.0 there.1
    negative.is_cycle.closed in
    let same : round.0 ≡ there.0 = some_same round.0 there.0 (sym round.1 ∙ there.1) in
    let bound = round.2 in
    let less = negative.negative in
    absurd (omega (arith, ints, same, bound, less))
