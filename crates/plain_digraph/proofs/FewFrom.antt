-- How many arcs go from each node.
use Rattle.std.proofs.Common.{◌≡◌, ◌<◌, ◌≤◌, ◌+◌, ℕ, Bool, true, false, cond, List, [], ◌∷◌, refl}
use Rattle.std.proofs.Common.{sym, ◌∙◌, ap, subst, inl, inr, arith}
use Rattle.std.specs.Prelude.{nat_le, ◌==◌, ◌&&◌}
use Rattle.std.specs.List.{list_all}
use Rattle.std.proofs.lemmas.Bool.{cases_lt}
use Rattle.std.proofs.lemmas.Bool.Decides.{eqb_tells, leb_tells}
use Rattle.std.proofs.lemmas.List.Sums.{sum_by-cons}
use Rattle.base_items.specs.declared.items.Fact.{Fact}
use Rattle.plain_digraph.specs.Guards.{count_from, FewFromEachNode}

no_false : {X : Type 0} → true ≡ false → X
no_false e = cc

both_true : (a b : Bool) → (a && b) ≡ true → (a ≡ true) × (b ≡ true)
both_true true b e = (refl, e)
both_true false b e = no_false (sym e)

at_most : (n limit : ℕ) → nat_le n limit ≡ true → n ≤ limit
at_most n limit e = elim (leb_tells n limit) [ inl h ↦ h.1 | inr h ↦ no_false (sym e ∙ h.0) ]

told_at_most : (n limit : ℕ) → n ≤ limit → nat_le n limit ≡ true
told_at_most n limit h =
    elim (leb_tells n limit) [ inl t ↦ t.0 | inr t ↦ absurd (omega (arith, h, t.1)) ]

count_more : (node : ℕ) (fact : Fact) (facts : List Fact)
    → count_from node (fact ∷ facts) ≡ cond (fact.from == node) 1 0 + count_from node facts
count_more node fact facts = sum_by-cons (λ f. cond (f.from == node) 1 0) fact facts

module _ (limit : ℕ) (facts : List Fact) where
  -- an arc from the node tells of all
  one_tells : (node : ℕ) (part : List Fact)
      → list_all (λ fact. nat_le (count_from fact.from facts) limit) part ≡ true
      → 0 < count_from node part → count_from node facts ≤ limit
  one_tells node [] all some = absurd (omega (arith, some))
  one_tells node (fact ∷ part) all some =
      let parts = both_true (nat_le (count_from fact.from facts) limit)
      (list_all (λ f. nat_le (count_from f.from facts) limit) part) all in
      elim (eqb_tells fact.from node) [
        | inl e ↦ subst (λ n. count_from n facts ≤ limit) e.1
            (at_most (count_from fact.from facts) limit parts.0)
        | inr e ↦
            (let more = count_more node fact part
            ∙ ap (λ b. cond b 1 0 + count_from node part) e.0 in
            one_tells node part parts.1 (omega (arith, more, some)))
      ]

  each_few : (part : List Fact) → ((node : ℕ) → count_from node facts ≤ limit)
      → list_all (λ fact. nat_le (count_from fact.from facts) limit) part ≡ true
  each_few [] few = refl
  each_few (fact ∷ part) few =
      ap (λ b. b && list_all (λ f. nat_le (count_from f.from facts) limit) part)
      (told_at_most (count_from fact.from facts) limit (few fact.from))
      ∙ each_few part few

pub few_from_each : FewFromEachNode
few_from_each limit facts = (
  λ all node. elim (cases_lt 0 (count_from node facts)) [
    | inl some ↦ one_tells limit facts node facts all some
    | inr none ↦ omega (arith, none)
  ],
  λ few. each_few limit facts facts few,
)
