-- Lengths of paces.
use Rattle.std.proofs.Common.{◌≡◌, ◌⊎◌, inl, inr, ℕ, zero, suc, ◌<◌}
use Rattle.std.proofs.Common.{ℤ, pos, negsuc, ◌≤ℤ◌, ◌<ℤ◌, List, All}
use Rattle.std.proofs.Common.{refl, sym, ◌∙◌, subst, arith}
use Rattle.std.proofs.lemmas.Int.{ints}
use Rattle.std.proofs.lemmas.List.Elements.{All-from_get_or}
use Rattle.plain_certificates.specs.Tables.{at}
use Rattle.pace_search.specs.Answers.{none}
use Rattle.task_bounds.specs.Given.{IsValue}
use Rattle.flow_mincost.specs.Lengths.{AreLengths, IsLength}

-- a length by other names of its parts
pub length_same : (s s' : ℕ) (v v' l l' : ℤ) → s ≡ s' → v ≡ v' → l' ≡ l → IsLength s v l
    → IsLength s' v' l'
length_same s s' v v' l l' some value len is = record {
  there = λ more. len ∙ (is.there (subst (λ x. 0 < x) (sym some) more) ∙ value);
  none_there = λ none. len ∙ is.none_there (some ∙ none);
}

-- there is something, or nothing
pub either : (s : ℕ) (v l : ℤ) → IsLength s v l
    → ((0 < s) × (l ≡ v)) ⊎ ((s ≡ 0) × (l ≡ none))
either zero v l is = inr (refl, is.none_there refl)
either (suc s) v l is = inl (omega arith, is.there (omega arith))

-- a length below what stands for no pace
pub is_there : (s : ℕ) (v l : ℤ) → IsLength s v l → l <ℤ none → (0 < s) × (l ≡ v)
is_there s v l is short = elim (either s v l is) [
  | inl e ↦ e
  | inr e ↦ (let far = e.1 in absurd (omega (arith, ints, far, short)))
]

module _ (count : ℕ) (some : ℕ → ℕ) (value : ℕ → ℤ) (lens : List ℤ)
    (are : AreLengths count some value lens)
    (small : (k : ℕ) → k < count → IsValue (value k)) where
  at_each : (k : ℕ) → k < count
      → (negsuc 68719476735 ≤ℤ at (pos 0) lens k) × (at (pos 0) lens k ≤ℤ none)
  at_each k l =
      let v = small k l in
      let low = v.0 in
      let high = v.1 in
      elim (either (some k) (value k) (at (pos 0) lens k) (are.each k l)) [
        | inl e ↦ (let is = e.1 in (omega (arith, ints, low, is), omega (arith, ints, high, is)))
        | inr e ↦ (let is = e.1 in (omega (arith, ints, is), omega (arith, ints, is)))
      ]

  -- lengths that a search takes
  pub lengths_low : All (λ l. negsuc 68719476735 ≤ℤ l) lens
  lengths_low =
      let all = are.all in
      All-from_get_or (λ l. negsuc 68719476735 ≤ℤ l) lens (pos 0)
      (λ k l. (at_each k (omega (arith, l, all))).0)

  pub lengths_high : All (λ l. l ≤ℤ none) lens
  lengths_high =
      let all = are.all in
      All-from_get_or (λ l. l ≤ℤ none) lens (pos 0)
      (λ k l. (at_each k (omega (arith, l, all))).1)
