-- What a certificate shows of values in lists, it shows of all values that agree with them on the
-- numbers of the digraph: cuts and feasible flows.
use Rattle.std.proofs.Common.{◌≡◌, ℕ, ◌<◌, Bool, true, false, ℤ, pos, ◌-ℤ◌, ◌≤ℤ◌, ap, subst}
use Rattle.std.proofs.Common.{◌∙◌}
use Rattle.std.specs.Prelude.{unwrap_or}
use Rattle.plain_certificates.specs.Numbered.{Numbered, sum_where}
use Rattle.plain_certificates.specs.Cuts.{IsCut, leaves, enters}
use Rattle.plain_certificates.specs.Feasible.{Bounds, IsAtMost, IsFeasible, IsOver, IsUnder}
use Rattle.plain_certificates.specs.Feasible.{IsBarrier, AreBounded, upper_of}
use Rattle.plain_certificates.proofs.Sums.{sum_where-same}

-- ---- cuts

pub cut_alike : (g : Numbered) (cap other : ℕ → ℤ) (s t : ℕ) (flow : ℕ → ℤ) (side : ℕ → Bool)
    (value : ℤ) → ((arc : ℕ) → arc < g.arcs → cap arc ≡ other arc)
    → IsCut g cap s t flow side value → IsCut g other s t flow side value
cut_alike g cap other s t flow side value same cut = record {
  is_flow = record {
    at_least_0 = cut.is_flow.at_least_0;
    within_cap = λ arc below.
        subst (λ c. flow arc ≤ℤ c) (same arc below) (cut.is_flow.within_cap arc below);
    kept = cut.is_flow.kept;
  };
  value_is = cut.value_is;
  has_s = cut.has_s;
  lacks_t = cut.lacks_t;
  tight = cut.tight
      ∙ sum_where-same g.arcs (leaves g side) cap other (λ arc below _. same arc below);
}

-- ---- bounds

-- the bounds and supplies are the same on the numbers of the digraph
pub record BoundsAgree (g : Numbered) (bounds other : Bounds) : Type 0 where
  pub lower : (arc : ℕ) → arc < g.arcs → bounds.lower arc ≡ other.lower arc
  pub upper : (arc : ℕ) → arc < g.arcs → bounds.upper arc ≡ other.upper arc
  pub supply : (node : ℕ) → node < g.nodes → bounds.supply node ≡ other.supply node

module _ (g : Numbered) (bounds other : Bounds) (same : BoundsAgree g bounds other) where
  pub feasible_alike : (flow : ℕ → ℤ) → IsFeasible g bounds flow → IsFeasible g other flow
  feasible_alike flow is = record {
    above_lower = λ arc below.
        subst (λ l. l ≤ℤ flow arc) (same.lower arc below) (is.above_lower arc below);
    within_upper = λ arc below.
        subst (IsAtMost (flow arc)) (same.upper arc below) (is.within_upper arc below);
    supplied = λ node below. is.supplied node below ∙ same.supply node below;
  }

  uppers_alike : (arc : ℕ) → arc < g.arcs → upper_of bounds arc ≡ upper_of other arc
  uppers_alike arc below = ap (λ u. unwrap_or u (pos 0)) (same.upper arc below)

  bounded_alike : (test : ℕ → Bool) → AreBounded g bounds test → AreBounded g other test
  bounded_alike test are arc below passes none =
      are arc below passes (same.upper arc below ∙ none)

  supplies_alike : (set : ℕ → Bool)
      → sum_where g.nodes set bounds.supply ≡ sum_where g.nodes set other.supply
  supplies_alike set =
      sum_where-same g.nodes set bounds.supply other.supply (λ node below _. same.supply node below)

  lowers_alike : (test : ℕ → Bool)
      → sum_where g.arcs test bounds.lower ≡ sum_where g.arcs test other.lower
  lowers_alike test =
      sum_where-same g.arcs test bounds.lower other.lower (λ arc below _. same.lower arc below)

  all_uppers_alike : (test : ℕ → Bool)
      → sum_where g.arcs test (upper_of bounds) ≡ sum_where g.arcs test (upper_of other)
  all_uppers_alike test =
      sum_where-same g.arcs test (upper_of bounds) (upper_of other)
      (λ arc below _. uppers_alike arc below)

  over_alike : (set : ℕ → Bool) (supply limit : ℤ) → IsOver g bounds set supply limit
      → IsOver g other set supply limit
  over_alike set supply limit is = record {
    supply_is = is.supply_is ∙ supplies_alike set;
    limit_is = is.limit_is
        ∙ (λ i. all_uppers_alike (leaves g set) i -ℤ lowers_alike (enters g set) i);
    bounded = bounded_alike (leaves g set) is.bounded;
    above = is.above;
  }

  under_alike : (set : ℕ → Bool) (supply limit : ℤ) → IsUnder g bounds set supply limit
      → IsUnder g other set supply limit
  under_alike set supply limit is = record {
    supply_is = is.supply_is ∙ supplies_alike set;
    limit_is = is.limit_is
        ∙ (λ i. lowers_alike (leaves g set) i -ℤ all_uppers_alike (enters g set) i);
    bounded = bounded_alike (enters g set) is.bounded;
    below = is.below;
  }

  pub barrier_alike : (over : Bool) (set : ℕ → Bool) (supply limit : ℤ)
      → IsBarrier g bounds over set supply limit → IsBarrier g other over set supply limit
  barrier_alike true set supply limit is = over_alike set supply limit is
  barrier_alike false set supply limit is = under_alike set supply limit is
