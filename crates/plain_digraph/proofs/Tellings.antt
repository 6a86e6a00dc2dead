-- What is told of a range of ids, where something else is told of one of them.
use Rattle.std.proofs.Common.{◌≡◌, ℕ, zero, suc, ◌+◌, ◌<◌, ◌≤◌, true, false, List, [], ◌∷◌, Some}
use Rattle.std.proofs.Common.{None, Option, refl, sym, ap, ◌∙◌, inl, inr, arith}
use Rattle.std.specs.Prelude.{nat_le, if◌then◌else◌}
use Rattle.std.specs.List.{filter_map, cons_option, range_with_len}
use Rattle.std.proofs.lemmas.Bool.{eq-eqb, ne_eqb, cases_eq}
use Rattle.std.proofs.lemmas.Bool.Decides.{nat_tests}
use Rattle.base_items.specs.declared.items.Fact.{Fact}
use Rattle.plain_digraph.specs.Rising.{with_item, swapped, without_item}
use Rattle.plain_digraph.specs.Facts.{fact_id}
use Rattle.plain_digraph.proofs.Facts.{IsNamed}

-- the same is told of the other ids
abbrev pub TellsOthers : (ℕ → Option Fact) → ℕ → (ℕ → Option Fact) → Type 0
TellsOthers old id new = (x : ℕ) → (x ≡ id → ⊥) → new x ≡ old x

-- where the same is told of all ids, the facts are the same
pub told_alike : (old new : ℕ → Option Fact) → ((x : ℕ) → new x ≡ old x) → (xs : List ℕ)
    → filter_map new xs ≡ filter_map old xs
told_alike old new same [] = refl
told_alike old new same (x ∷ xs) = λ i. cons_option (same x i) (told_alike old new same xs i)

pub is_within : (m n : ℕ) → m ≤ n → nat_le m n ≡ true
is_within m n h = grind (arith, nat_tests)

pub is_above : (m n : ℕ) → n < m → nat_le m n ≡ false
is_above m n h = grind (arith, nat_tests)

module _ (old new : ℕ → Option Fact) (named : IsNamed old) (id : ℕ)
    (others : TellsOthers old id new) where
  -- ---- another fact is told of the id

  pub told_swapped : (was now : Fact) → old id ≡ Some was → new id ≡ Some now → now.id ≡ id
      → (xs : List ℕ)
      → filter_map new xs ≡ swapped fact_id now (filter_map old xs)
  told_swapped was now before after own [] = refl
  told_swapped was now before after own (x ∷ xs) =
      let rest = told_swapped was now before after own xs in
      elim (cases_eq x id) [
        | inl same ↦
            let here : was.id ≡ now.id = named id was before ∙ sym own in
            ap (λ o. cons_option o (filter_map new xs)) (ap new same ∙ after)
            ∙ ap (λ l. now ∷ l) rest
            ∙ sym (ap (λ b. (if b then now else was) ∷ swapped fact_id now (filter_map old xs))
            (eq-eqb was.id now.id here))
            ∙ ap (λ o. swapped fact_id now (cons_option o (filter_map old xs)))
            (sym (ap old same ∙ before))
        | inr other ↦
            ap (λ o. cons_option o (filter_map new xs)) (others x other)
            ∙ ap (cons_option (old x)) rest
            ∙ elim (old x) as (λ o. old x ≡ o
            → cons_option o (swapped fact_id now (filter_map old xs))
            ≡ swapped fact_id now (cons_option o (filter_map old xs))) [
              | None ↦ λ e. refl
              | Some fact ↦ λ e.
                  let apart : fact.id ≡ now.id → ⊥ = λ h. other (sym (named x fact e) ∙ h ∙ own) in
                  ap (λ b. (if b then now else fact) ∷ swapped fact_id now (filter_map old xs))
                  (sym (ne_eqb fact.id now.id apart))
            ] refl
      ]

  -- ---- nothing is told of the id any more

  pub told_without : new id ≡ None → (xs : List ℕ)
      → filter_map new xs ≡ without_item fact_id id (filter_map old xs)
  told_without gone [] = refl
  told_without gone (x ∷ xs) =
      let rest = told_without gone xs in
      elim (old x) as (λ o. old x ≡ o
      → cons_option (new x) (filter_map new xs)
      ≡ without_item fact_id id (cons_option o (filter_map old xs))) [
        | None ↦ λ e.
            let none : new x ≡ None =
            elim (cases_eq x id)
            [ inl same ↦ ap new same ∙ gone | inr other ↦ others x other ∙ e ] in
            ap (λ o. cons_option o (filter_map new xs)) none ∙ rest
        | Some fact ↦ λ e. elim (cases_eq x id) [
          | inl same ↦
              ap (λ o. cons_option o (filter_map new xs)) (ap new same ∙ gone) ∙ rest
              ∙ ap (λ b. if b then without_item fact_id id (filter_map old xs) else fact ∷
              without_item fact_id id (filter_map old xs))
              (sym (eq-eqb fact.id id (named x fact e ∙ same)))
          | inr other ↦
              ap (λ o. cons_option o (filter_map new xs)) (others x other ∙ e)
              ∙ ap (λ l. fact ∷ l) rest
              ∙ ap (λ b. if b then without_item fact_id id (filter_map old xs) else fact ∷
              without_item fact_id id (filter_map old xs))
              (sym (ne_eqb fact.id id (λ h. other (sym (named x fact e) ∙ h))))
        ]
      ] refl

  -- ---- a fact is told of the id, of which nothing was told

  -- beyond the id nothing changes
  told_beyond : (a n : ℕ) → id < a
      → filter_map new (range_with_len a n) ≡ filter_map old (range_with_len a n)
  told_beyond a zero above = refl
  told_beyond a (suc n) above =
      let here : new a ≡ old a = others a (λ e. omega (arith, e, above)) in
      let rest = told_beyond (a + 1) n (omega (arith, above)) in
      λ i. cons_option (here i) (rest i)

  -- a fact below all others goes in front
  first_of : (now : Fact) (a n : ℕ) → now.id < a
      → with_item fact_id now (filter_map old (range_with_len a n))
      ≡ now ∷ filter_map old (range_with_len a n)
  first_of now a zero below = refl
  first_of now a (suc n) below =
      let rest = first_of now (a + 1) n (omega (arith, below)) in
      let more : List Fact = filter_map old (range_with_len (a + 1) n) in
      elim (old a) as (λ o. old a ≡ o
      → with_item fact_id now (cons_option o more) ≡ now ∷ cons_option o more) [
        | None ↦ λ e. rest
        | Some fact ↦ λ e.
            let is = named a fact e in
            ap (λ b. if b then now ∷ fact ∷ more else fact ∷ with_item fact_id now more)
            (is_within now.id fact.id (omega (arith, is, below)))
      ] refl

  pub told_with : (now : Fact) → old id ≡ None → new id ≡ Some now → now.id ≡ id → (a n : ℕ)
      → a ≤ id → id < a + n
      → filter_map new (range_with_len a n)
      ≡ with_item fact_id now (filter_map old (range_with_len a n))
  told_with now before after own a zero low high = absurd (omega (arith, low, high))
  told_with now before after own a (suc n) low high =
      let fresh : List Fact = filter_map new (range_with_len (a + 1) n) in
      let more : List Fact = filter_map old (range_with_len (a + 1) n) in
      elim (cases_eq a id) [
        | inl same ↦
            ap (λ o. cons_option o fresh) (ap new same ∙ after)
            ∙ ap (λ l. now ∷ l) (told_beyond (a + 1) n (omega (arith, same)))
            ∙ sym (first_of now (a + 1) n (omega (arith, own, same)))
            ∙ ap (λ o. with_item fact_id now (cons_option o more)) (sym (ap old same ∙ before))
        | inr other ↦
            let rest = told_with now before after own (a + 1) n (omega (arith, low, other))
            (omega (arith, high)) in
            ap (λ o. cons_option o fresh) (others a other) ∙ ap (cons_option (old a)) rest
            ∙ elim (old a) as (λ o. old a ≡ o
            → cons_option o (with_item fact_id now more)
            ≡ with_item fact_id now (cons_option o more)) [
              | None ↦ λ e. refl
              | Some fact ↦ λ e.
                  let is = named a fact e in
                  ap (λ b. if b then now ∷ fact ∷ more else fact ∷ with_item fact_id now more)
                  (sym (is_above now.id fact.id (omega (arith, is, low, other, own))))
            ] refl
      ]

-- an id of which nothing is told adds nothing to a range
pub told_longer : (told : ℕ → Option Fact) (a n : ℕ) → told (a + n) ≡ None
    → filter_map told (range_with_len a (suc n)) ≡ filter_map told (range_with_len a n)
told_longer told a zero none = ap (λ o. cons_option o []) (ap told (sym (omega arith)) ∙ none)
told_longer told a (suc n) none =
    let later : (a + 1) + n ≡ a + suc n = omega arith in
    ap (cons_option (told a)) (told_longer told (a + 1) n (ap told later ∙ none))
