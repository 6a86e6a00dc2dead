-- The same of cheapest flows, free cycles and basic flows.
use Rattle.std.proofs.Common.{◌≡◌, ℕ, ◌<◌, ℤ, pos, ◌+ℤ◌, ◌-ℤ◌, ◌*ℤ◌, ◌≤ℤ◌, ◌<ℤ◌, List, [], ◌∷◌, All}
use Rattle.std.proofs.Common.{sym, ap, subst, ◌∙◌, None, refl}
use Rattle.std.proofs.lemmas.List.Elements.{All-nil, All-cons, All-head, All-tail, All-weaker}
use Rattle.plain_certificates.specs.Numbered.{Numbered}
use Rattle.plain_certificates.specs.Walks.{along, IsWalk, Pace, IsTrail, arcs_of, start_of}
use Rattle.plain_certificates.specs.Walks.{pace_to}
use Rattle.plain_certificates.specs.Feasible.{Bounds, IsBelow}
use Rattle.plain_certificates.specs.Cheapest.{IsOptimal, IsFreeCycle, IsBasic, IsBetween}
use Rattle.plain_certificates.specs.Cheapest.{reduced_cost}
use Rattle.plain_certificates.proofs.Sums.{sum_to-same}
use Rattle.flow_replies.proofs.SameCuts.{BoundsAgree, feasible_alike}

-- the arcs of a walk are those of the digraph
walk_inside : (g : Numbered) (u v : ℕ) (walk : List ℕ) → IsWalk g u walk v
    → All (λ arc. arc < g.arcs) walk
walk_inside g u v [] is = All-nil (λ arc. arc < g.arcs)
walk_inside g u v (arc ∷ arcs) is =
    All-cons (λ arc. arc < g.arcs) arc arcs is.0 (walk_inside g (g.to arc) v arcs is.2)

trail_inside : (g : Numbered) (u v : ℕ) (paces : List Pace) → IsTrail g u paces v
    → All (λ arc. arc < g.arcs) (arcs_of paces)
trail_inside g u v [] is = All-nil (λ arc. arc < g.arcs)
trail_inside g u v (pace ∷ paces) is =
    All-cons (λ arc. arc < g.arcs) pace.arc (arcs_of paces) is.0
    (trail_inside g (pace_to g pace) v paces is.2)

-- a value that is the same on all arcs of a list
pub along_alike : (value other : ℕ → ℤ) (arcs : List ℕ) → All (λ arc. value arc ≡ other arc) arcs
    → along value arcs ≡ along other arcs
along_alike value other [] same = refl
along_alike value other (arc ∷ arcs) same =
    let P : ℕ → Type 0 = λ arc. value arc ≡ other arc in
    let here = All-head P arc arcs same in
    let rest = along_alike value other arcs (All-tail P arc arcs same) in
    λ i. here i +ℤ rest i

-- what holds of each of the digraph's arcs, with what holds of those of a list
both_inside : (P Q : ℕ → Type 0) (count : ℕ) (arcs : List ℕ)
    → ((arc : ℕ) → arc < count → P arc → Q arc) → All (λ arc. arc < count) arcs → All P arcs
    → All Q arcs
both_inside P Q count [] follows inside all = All-nil Q
both_inside P Q count (arc ∷ arcs) follows inside all =
    let Below : ℕ → Type 0 = λ arc. arc < count in
    All-cons Q arc arcs (follows arc (All-head Below arc arcs inside) (All-head P arc arcs all))
    (both_inside P Q count arcs follows (All-tail Below arc arcs inside) (All-tail P arc arcs all))

module _ (g : Numbered) (bounds other : Bounds) (same : BoundsAgree g bounds other) where
  between_back : (flow : ℕ → ℤ) (arc : ℕ) → arc < g.arcs → IsBetween other flow arc
      → IsBetween bounds flow arc
  between_back flow arc below is = (
    subst (λ l. l <ℤ flow arc) (sym (same.lower arc below)) is.0,
    subst (IsBelow (flow arc)) (sym (same.upper arc below)) is.1,
  )

  pub basic_alike : (flow : ℕ → ℤ) → IsBasic g bounds flow → IsBasic g other flow
  basic_alike flow is node paces some differ between trail =
      is node paces some differ
      (both_inside (IsBetween other flow) (IsBetween bounds flow) g.arcs (arcs_of paces)
      (between_back flow) (trail_inside g node node paces trail) between) trail

  module _ (cost own : ℕ → ℤ) (alike : (arc : ℕ) → arc < g.arcs → cost arc ≡ own arc) where
    reduced_alike : (pi : ℕ → ℤ) (arc : ℕ) → arc < g.arcs
        → reduced_cost g cost pi arc ≡ reduced_cost g own pi arc
    reduced_alike pi arc below =
        ap (λ c. (c +ℤ pi (g.from arc)) -ℤ pi (g.to arc)) (alike arc below)

    pub optimal_alike : (flow pi : ℕ → ℤ) (total : ℤ) → IsOptimal g bounds cost flow pi total
        → IsOptimal g other own flow pi total
    optimal_alike flow pi total is = record {
      feasible = feasible_alike g bounds other same flow is.feasible;
      total_is = is.total_is
          ∙ sum_to-same g.arcs (λ arc. cost arc *ℤ flow arc) (λ arc. own arc *ℤ flow arc)
          (λ arc below. ap (λ c. c *ℤ flow arc) (alike arc below));
      first_is_0 = is.first_is_0;
      no_gain = λ arc below room.
          subst (λ c. pos 0 ≤ℤ c) (reduced_alike pi arc below)
          (is.no_gain arc below
          (subst (IsBelow (flow arc)) (sym (same.upper arc below)) room));
      no_loss = λ arc below room.
          subst (λ c. c ≤ℤ pos 0) (reduced_alike pi arc below)
          (is.no_loss arc below
          (subst (λ l. l <ℤ flow arc) (sym (same.lower arc below)) room));
    }

    pub free_alike : (flow : ℕ → ℤ) (cycle : List ℕ) (total : ℤ)
        → IsFreeCycle g bounds cost flow cycle total → IsFreeCycle g other own flow cycle total
    free_alike flow cycle total is =
        let inside = walk_inside g (start_of g cycle) (start_of g cycle) cycle is.is_cycle.closed
        in
        record {
          feasible = feasible_alike g bounds other same flow is.feasible;
          is_cycle = is.is_cycle;
          unbounded = both_inside (λ arc. bounds.upper arc ≡ None) (λ arc. other.upper arc ≡ None)
              g.arcs cycle (λ arc below none. sym (same.upper arc below) ∙ none) inside
              is.unbounded;
          total_is = is.total_is
              ∙ along_alike cost own cycle
              (All-weaker (λ arc. arc < g.arcs) (λ arc. cost arc ≡ own arc) alike cycle inside);
          negative = is.negative;
        }
