-- Sums, counts and least values of what is held are those of the items in turn.
use Rattle.std.proofs.Common.{◌≡◌, ℕ, zero, suc, ◌+◌, ◌<◌, ◌≤◌, ℤ, pos, ◌+ℤ◌, ◌≤ℤ◌, Bool, true}
use Rattle.std.proofs.Common.{false, cond, List, [], ◌∷◌, map, refl, sym, ap, subst, ◌∙◌}
use Rattle.std.proofs.Common.{inl, inr, arith, count_by, fold}
use Rattle.std.specs.Prelude.{int_lt, ◌⊎◌}
use Rattle.std.proofs.lemmas.Int.{ints}
use Rattle.std.proofs.lemmas.List.Sums.{sum_by-cons}
use Rattle.lane_kernels.specs.Counts.{truths}
use Rattle.lane_kernels.specs.Sums.{total_of}
use Rattle.plain_digraph.specs.Lists.{AllOf}
use Rattle.observe_core.specs.Held.{Entry}
use Rattle.columns.specs.Views.{entry}
use Rattle.value_maps.specs.Entries.{HasValue, values_in}
use Rattle.value_maps.specs.LeastEntry.{IsLeastEntry}
use Rattle.plain_world.specs.Replies.{total, least_item}
use Rattle.desk_world.proofs.ByItem.{Rise}

-- the ids, each with its value
abbrev pub valued : {X : Type 0} → (ℕ → X) → List ℕ → List (Entry X)
valued value ids = map (λ id. entry id (value id)) ids

-- ---- sums

sum_onto : (start : ℤ) (values : List ℤ)
    → fold (λ sum value. sum +ℤ value) start values ≡ start +ℤ total_of values
sum_onto start [] = omega (arith, ints)
sum_onto start (x ∷ values) =
    let rest = sum_onto (start +ℤ x) values in
    omega (arith, ints, rest)

values_are : {X : Type 0} (value : ℕ → X) (ids : List ℕ)
    → values_in (valued value ids) ≡ map value ids
values_are value [] = refl
values_are value (id ∷ ids) = ap (λ more. value id ∷ more) (values_are value ids)

pub total_is : (value : ℕ → ℤ) (ids : List ℕ)
    → total_of (values_in (valued value ids)) ≡ total (map value ids)
total_is value ids =
    let onto = sum_onto (pos 0) (map value ids) in
    let whole : total_of (map value ids) ≡ total (map value ids) = omega (arith, ints, onto) in
    ap total_of (values_are value ids) ∙ whole

-- ---- counts

pub count_is : (test : ℕ → Bool) (ids : List ℕ)
    → truths (values_in (valued test ids)) ≡ count_by test ids
count_is test [] = refl
count_is test (id ∷ ids) =
    ap (λ n. cond (test id) 1 0 + n) (count_is test ids)
    ∙ sym (sum_by-cons (λ x. cond (test x) 1 0) id ids)

-- ---- least values

-- the id is one of these
abbrev IsOneOf : ℕ → List ℕ → Type 0
IsOneOf id [] = ⊥
IsOneOf id (x ∷ xs) = (x ≡ id) ⊎ IsOneOf id xs

had_id : {X : Type 0} (value : ℕ → X) (id : ℕ) (v : X) (ids : List ℕ)
    → HasValue id v (valued value ids) → IsOneOf id ids × (value id ≡ v)
had_id value id v [] (k, within, is) = absurd (omega (arith, within))
had_id {X} value id v (x ∷ xs) (zero, within, is) =
    let same : x ≡ id = ap (λ (e : Entry X). e.id) is in
    (inl same, ap value (sym same) ∙ ap (λ (e : Entry X). e.value) is)
had_id value id v (x ∷ xs) (suc k, within, is) =
    let rest = had_id value id v xs (k, omega (arith, within), is) in
    (inr rest.0, rest.1)

-- what is so of all entries is so of the ids
of_ids : {X : Type 0} (value : ℕ → X) (P : ℕ → X → Type 0) (ids : List ℕ)
    → AllOf (λ (e : Entry X). P e.id e.value) (valued value ids) → AllOf (λ y. P y (value y)) ids
of_ids value P [] all = tt
of_ids value P (x ∷ xs) all = (all.0, of_ids value P xs all.1)

module _ (value : ℕ → ℤ) (id : ℕ) where
  -- the id has the least value of these, and is the least with it
  record IsLeastOf (ids : List ℕ) : Type 0 where
    one : IsOneOf id ids
    least : AllOf (λ y. value id ≤ℤ value y) ids
    first : AllOf (λ y. value y ≡ value id → id ≤ y) ids

  is_one_less : (best y : ℕ) (ys : List ℕ) → IsLeastOf (best ∷ y ∷ ys)
      → int_lt (value y) (value best) ≡ true → IsOneOf id (y ∷ ys)
  is_one_less best y ys is less = by is.one
    where
      by : IsOneOf id (best ∷ y ∷ ys) → IsOneOf id (y ∷ ys)
      by (inr other) = other
      by (inl same) =
          let no_more : value id ≤ℤ value y = is.least.1.0 in
          let same_value : value best ≡ value id = ap value same in
          absurd (grind (arith, ints, less, no_more, same_value))

  is_one_still : (best y : ℕ) (ys : List ℕ) → IsLeastOf (best ∷ y ∷ ys) → best < y
      → int_lt (value y) (value best) ≡ false → IsOneOf id (best ∷ ys)
  is_one_still best y ys is rises no_less = by is.one
    where
      by : IsOneOf id (best ∷ y ∷ ys) → IsOneOf id (best ∷ ys)
      by (inl same) = inl same
      by (inr (inr other)) = inr other
      by (inr (inl same)) =
          let least : value id ≤ℤ value best = is.least.0 in
          let same_value : value y ≡ value id = ap value same in
          let alike : value best ≡ value id =
          grind (arith, ints, least, same_value, no_less) in
          let below = is.first.0 alike in
          absurd (omega (arith, below, rises, same))

  least_is_id : (best : ℕ) (ids : List ℕ) → Rise (best ∷ ids) → IsLeastOf (best ∷ ids)
      → least_item value best ids ≡ id
  least_is_id best [] rise is = by is.one
    where
      by : IsOneOf id (best ∷ []) → best ≡ id
      by (inl same) = same
      by (inr none) = absurd none
  least_is_id best (y ∷ ys) rise is =
      elim (int_lt (value y) (value best)) as (λ b. int_lt (value y) (value best) ≡ b
      → least_item value (cond b y best) ys ≡ id) [
        | true ↦ λ less. least_is_id y ys rise.1 (record {
          one = is_one_less best y ys is less;
          least = is.least.1;
          first = is.first.1;
        })
        | false ↦ λ no_less. least_is_id best ys (rise.0.1, rise.1.1) (record {
          one = is_one_still best y ys is rise.0.0 no_less;
          least = (is.least.0, is.least.1.1);
          first = (is.first.0, is.first.1.1);
        })
      ] refl

-- the entry that a map tells is the first of the items with the least value
pub least_is : (value : ℕ → ℤ) (first : ℕ) (ids : List ℕ) (id : ℕ) (v : ℤ) → Rise (first ∷ ids)
    → IsLeastEntry (valued value (first ∷ ids)) id v
    → (least_item value first ids ≡ id) × (value id ≡ v)
least_is value first ids id v rise is =
    let had = had_id value id v (first ∷ ids) is.has in (
      least_is_id value id first ids rise (record {
        one = had.0;
        least = subst (λ w. AllOf (λ y. w ≤ℤ value y) (first ∷ ids)) (sym had.1)
            (of_ids value (λ y w. v ≤ℤ w) (first ∷ ids) is.least);
        first = subst (λ w. AllOf (λ y. value y ≡ w → id ≤ y) (first ∷ ids)) (sym had.1)
            (of_ids value (λ y w. w ≡ v → id ≤ y) (first ∷ ids) is.first);
      }),
      had.1,
    )
