-- That the examples hold: by cases on the few nodes and arcs, each by computing.
use Rattle.std.proofs.Common.{◌≡◌, ◌≢◌, ◌⊎◌, inl, inr, ℕ, zero, suc, ◌<◌, true, false, eqb, get_or}
use Rattle.std.proofs.Common.{ℤ, pos, [], ◌∷◌, Some, None, refl}
use Rattle.std.proofs.Common.{sym, arith}
use Rattle.std.proofs.lemmas.Int.{ints}
use Rattle.std.proofs.lemmas.List.Elements.{All-head}
use Rattle.std.proofs.lemmas.List.Sorted.{IsPermutation-refl}
use Rattle.std.proofs.lemmas.Map.Keys.{IsDistinct-from_apart}
use Rattle.plain_certificates.specs.Walks.{IsCycle}
use Rattle.plain_certificates.specs.Paths.{IsLastArc, leads_back}
use Rattle.plain_certificates.specs.Cheapest.{IsBetween}
use Rattle.plain_certificates.specs.Examples as ex

-- what holds of the number below 1, of the two below 2, and of the three below 3
of_one : (P : ℕ → Type 0) → P 0 → (k : ℕ) → k < 1 → P k
of_one P a zero l = a
of_one P a (suc k) l = absurd (omega (arith, l))

of_two : (P : ℕ → Type 0) → P 0 → P 1 → (k : ℕ) → k < 2 → P k
of_two P a b zero l = a
of_two P a b (suc zero) l = b
of_two P a b (suc (suc k)) l = absurd (omega (arith, l))

of_three : (P : ℕ → Type 0) → P 0 → P 1 → P 2 → (k : ℕ) → k < 3 → P k
of_three P a b c zero l = a
of_three P a b c (suc zero) l = b
of_three P a b c (suc (suc zero)) l = c
of_three P a b c (suc (suc (suc k))) l = absurd (omega (arith, l))

-- ---- paths

some_same : (a b : ℤ) → Some a ≡ Some b → a ≡ b
some_same a b e = cc

pub paths_along_line : ex.PathsAlongLine
paths_along_line = record {
  at_start = refl;
  no_further = of_one _ (omega (arith, ints));
  last = λ node d l. of_two
      (λ v. v ≢ 0 → ex.line_dist v ≡ Some d
      → (arc : ℕ) × (ex.line_via v ≡ Some arc)
      × IsLastArc ex.line (λ k. pos 5) ex.line_dist arc v d)
      (λ off. absurd (off refl))
      (λ off is. (
        0,
        refl,
        record {
          within = omega arith;
          ends = refl;
          source = pos 0;
          source_is = refl;
          adds_up = sym (some_same (pos 5) d is);
        },
      ))
      node l;
  others = λ node l. of_two (λ v. (v ≡ 0) ⊎ (ex.line_dist v ≡ None) → ex.line_via v ≡ None)
      (λ _. refl)
      (λ off. elim off [ inl e ↦ absurd (omega (arith, e)) | inr e ↦ absurd cc ])
      node l;
  back = λ node d l. of_two
      (λ v. ex.line_dist v ≡ Some d → leads_back ex.line ex.line_via 0 2 v ≡ true) (λ _. refl)
      (λ _. refl) node l;
}

apart : (i j d : ℕ) → i < j → j < 2
    → eqb (get_or (0 ∷ 1 ∷ []) i d) (get_or (0 ∷ 1 ∷ []) j d) ≡ false
apart i zero d lt l = absurd (omega (arith, lt))
apart zero (suc zero) d lt l = refl
apart (suc i) (suc zero) d lt l = absurd (omega (arith, lt))
apart i (suc (suc j)) d lt l = absurd (omega (arith, l))

two_differ : IsCycle ex.round (0 ∷ 1 ∷ [])
two_differ = record {
  nonempty = omega arith;
  differ = IsDistinct-from_apart (λ a b. eqb a b) (0 ∷ 1 ∷ []) apart;
  closed = (omega arith, refl, (omega arith, refl, refl));
  least_first = refl;
}

pub negative_round : ex.NegativeRound
negative_round = record {
  is_cycle = two_differ;
  negative = omega (arith, ints);
  walk = [];
  reached = refl;
}

-- ---- flows

pub cut_of_line : ex.CutOfLine
cut_of_line = record {
  is_flow = record {
    at_least_0 = λ _ _. omega (arith, ints);
    within_cap = λ _ _. omega (arith, ints);
    kept = of_two _ (λ off _. absurd (off refl)) (λ _ off. absurd (off refl));
  };
  value_is = refl;
  has_s = refl;
  lacks_t = refl;
  tight = refl;
}

pub too_much_on_line : ex.TooMuchOnLine
too_much_on_line = record {
  supply_is = refl;
  limit_is = refl;
  bounded = λ _ _ _. (λ none. absurd cc);
  above = omega (arith, ints);
}

pub too_little_on_line : ex.TooLittleOnLine
too_little_on_line = record {
  supply_is = refl;
  limit_is = refl;
  bounded = λ _ _ _. (λ none. absurd cc);
  below = omega (arith, ints);
}

pub optimal_on_line : ex.OptimalOnLine
optimal_on_line = record {
  feasible = record {
    above_lower = λ _ _. omega (arith, ints);
    within_upper = λ _ _. omega (arith, ints);
    supplied = of_two _ refl refl;
  };
  total_is = refl;
  first_is_0 = λ _. refl;
  no_gain = λ _ _ _. omega (arith, ints);
  no_loss = λ _ _ _. omega (arith, ints);
}

pub basic_round : ex.BasicRound
basic_round node [] some differ between trail = absurd (omega (arith, some))
basic_round node (pace ∷ paces) some differ between trail =
    let low = (All-head (IsBetween (ex.line_bounds (pos 0) (pos 0)) (λ arc. pos 0)) pace.arc _
    between).0 in
    absurd (omega (arith, ints, low))

pub free_round : ex.FreeRound
free_round = record {
  feasible = record {
    above_lower = λ _ _. omega (arith, ints);
    within_upper = λ _ _. tt;
    supplied = of_two _ refl refl;
  };
  is_cycle = two_differ;
  unbounded = λ _ _ _. refl;
  total_is = refl;
  negative = omega (arith, ints);
}

-- ---- pairings

pub pair_on_line : ex.PairOnLine
pair_on_line = record {
  apart = of_two _ (omega (arith, ints)) (omega (arith, ints));
  hall_left = λ _ _ on. absurd cc;
  tight = refl;
}

pub heaviest_on_line : ex.HeaviestOnLine
heaviest_on_line = record {
  apart = of_two _ (omega (arith, ints)) (omega (arith, ints));
  total_is = refl;
  at_least_0 = of_two _ (omega (arith, ints)) (omega (arith, ints));
  no_heavier = λ _ _. omega (arith, ints);
  tight = refl;
}

pub assigned_on_line : ex.AssignedOnLine
assigned_on_line = record {
  apart = of_two _ (omega (arith, ints)) (omega (arith, ints));
  covered = of_two _ (λ _. refl) (λ on. absurd cc);
  total_is = refl;
  at_most_0 = of_two _ (λ off. absurd cc) (λ _. omega (arith, ints));
  no_cheaper = λ _ _. omega (arith, ints);
  tight = refl;
}

pub short_fork : ex.ShortFork
short_fork = record { set_left = λ _ _ on. on; fewer = omega (arith, ints) }

-- ---- cycle ratios

pub mean_round : ex.MeanRound
mean_round = record {
  is_cycle = two_differ;
  total_is = refl;
  times_is = refl;
  first_is_0 = refl;
  no_less = of_two _ (omega (arith, ints)) (omega (arith, ints));
}

pub line_in_order : ex.LineInOrder
line_in_order = record {
  whole = IsPermutation-refl (0 ∷ 1 ∷ []);
  onward = λ _ _. omega arith;
}
