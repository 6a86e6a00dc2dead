-- Items in lists by falling stamp.
use Rattle.std.proofs.Common.{◌≡◌, ◌≢◌, ℕ, ◌+◌, ◌<◌, nat_le, ◌==◌, Bool, true, false}
use Rattle.std.proofs.Common.{if◌then◌else◌, IsTrue, List, [], ◌∷◌, map}
use Rattle.std.proofs.Common.{inl, inr, refl, sym, ap, subst, ◌∙◌, arith}
use Rattle.std.specs.Prelude.{◌||◌, ◌⊎◌}
use Rattle.std.proofs.lemmas.Grind.{common_steps}
use Rattle.std.proofs.lemmas.Bool.{eq-eqb, ne_eqb, or_cases, eqb-true}
use Rattle.std.proofs.lemmas.Bool.{true≢false}
use Rattle.base_items.specs.declared.items.Fact.{Fact}
use Rattle.linked_lists.specs.Links.{AreApart, AreWithin}
use Rattle.linked_lists.proofs.Ids.{in_both, has_later}
use Rattle.plain_digraph.specs.Facts.{fact_id}
use Rattle.plain_digraph.specs.Lists.{AllOf, has}
use Rattle.plain_digraph.specs.Rising.{with_item}
use Rattle.observe_core.specs.Facts.{AllInBounds, IsInBounds, HasDistinctIds}
use Rattle.observe_core.proofs.ItemLemmas.{and_right, rises-lacks}
use Rattle.observe_core.specs.Items.{Lacks, rises_from}
use Rattle.list_digraph.proofs.Lists.{Owned, lacks_or}
use Rattle.kept_views.specs.declared.listing.Listing.{Listing}
use Rattle.kept_views.specs.Order.{owner_of, rank, put_falling, items_at, ids_at}

-- ---- items go in in any order

ranks_differ : (l : Listing) (f g : Fact) → f.id ≢ g.id → f.id < 4194304 → g.id < 4194304
    → rank l f ≢ rank l g
ranks_differ l f g differ low small same = differ (omega (arith, same, low, small))

crossed : (l : Listing) (f g : Fact) → rank l f ≢ rank l g → (xs : List Fact)
    → put_falling l f (put_falling l g xs) ≡ put_falling l g (put_falling l f xs)
crossed l f g differ [] = grind (arith, common_steps, differ)
crossed l f g differ (x ∷ xs) =
    let r = crossed l f g differ xs in
    grind (arith, common_steps, r, differ)

module _ (l : Listing) (v : ℕ) where
  -- an item more, in the list of its owner
  pub more_at : (f : Fact) (fs : List Fact) → Lacks fact_id f.id fs → IsInBounds f
      → AllInBounds fs
      → items_at l v (with_item fact_id f fs)
      ≡ (if owner_of l f == v then put_falling l f (items_at l v fs) else items_at l v fs)
  more_at f [] lacks low small = refl
  more_at f (g ∷ gs) lacks low small =
      let r = more_at f gs lacks.1 low small.1 in
      let xs = items_at l v gs in
      let c = crossed l g f
      (λ e. ranks_differ l g f lacks.0 small.0.0 low.0 e) xs in
      elim (nat_le f.id g.id) as (λ b.
      items_at l v (if b then f ∷ g ∷ gs else g ∷ with_item fact_id f gs)
      ≡ (if owner_of l f == v then put_falling l f (items_at l v (g ∷ gs))
      else items_at l v (g ∷ gs))) [
        | true ↦ refl
        | false ↦
            ap (λ ys. if owner_of l g == v then put_falling l g ys else ys) r
            ∙ turns (owner_of l g == v) (owner_of l f == v) g f xs c
      ]
    where
      turns : (a b : Bool) (g f : Fact) (xs : List Fact)
          → put_falling l g (put_falling l f xs) ≡ put_falling l f (put_falling l g xs)
          → (if a then put_falling l g (if b then put_falling l f xs else xs)
          else (if b then put_falling l f xs else xs))
          ≡ (if b then put_falling l f (if a then put_falling l g xs else xs)
          else (if a then put_falling l g xs else xs))
      turns true true g f xs c = c
      turns true false g f xs c = refl
      turns false true g f xs c = refl
      turns false false g f xs c = refl

-- ---- which ids are in a list

pub has_put : (l : Listing) (f : Fact) (xs : List Fact) (i : ℕ)
    → has (map fact_id (put_falling l f xs)) i ≡ (f.id == i) || has (map fact_id xs) i
has_put l f [] i = refl
has_put l f (x ∷ xs) i =
    let r = has_put l f xs i in
    elim (nat_le (rank l x) (rank l f)) as (λ b.
    has (map fact_id (if b then f ∷ x ∷ xs else x ∷ put_falling l f xs)) i
    ≡ (f.id == i) || has (map fact_id (x ∷ xs)) i) [
      | true ↦ refl
      | false ↦
          ap (λ c. (x.id == i) || c) r
          ∙ shift (x.id == i) (f.id == i) (has (map fact_id xs) i)
    ]
  where
    shift : (a b c : Bool) → a || (b || c) ≡ b || (a || c)
    shift true true c = refl
    shift true false c = refl
    shift false true c = refl
    shift false false c = refl

-- an id that no item has is in no list
pub lacks_at : (l : Listing) (v i : ℕ) (fs : List Fact) → Lacks fact_id i fs
    → has (ids_at l fs v) i ≡ false
lacks_at l v i [] lacks = refl
lacks_at l v i (f ∷ fs) lacks =
    let r = lacks_at l v i fs lacks.1 in
    elim (owner_of l f == v) as (λ b.
    has (map fact_id (if b then put_falling l f (items_at l v fs) else items_at l v fs)) i
    ≡ false) [
      | true ↦
          has_put l f (items_at l v fs) i
          ∙ ap (λ b. b || has (ids_at l fs v) i) (ne_eqb f.id i lacks.0) ∙ r
      | false ↦ r
    ]

-- ---- each list by itself

pub apart_put : (l : Listing) (f : Fact) (xs : List Fact) → AreApart (map fact_id xs)
    → has (map fact_id xs) f.id ≡ false → AreApart (map fact_id (put_falling l f xs))
apart_put l f [] apart lacks = (refl, tt)
apart_put l f (x ∷ xs) apart lacks =
    let other : f.id ≢ x.id = λ e. true≢false (sym (ap (λ b. b || has (map fact_id xs) f.id)
    (eq-eqb x.id f.id (sym e))) ∙ lacks) in
    let later : has (map fact_id xs) f.id ≡ false =
    lacks_or (map fact_id xs) f.id
    (λ h. in_both (has (map fact_id (x ∷ xs)) f.id) (has_later (map fact_id xs) x.id f.id h)
    lacks) in
    elim (nat_le (rank l x) (rank l f)) as (λ b.
    AreApart (map fact_id (if b then f ∷ x ∷ xs else x ∷ put_falling l f xs))) [
      | true ↦ (lacks, apart)
      | false ↦ (
        has_put l f xs x.id ∙ ap (λ b. b || has (map fact_id xs) x.id) (ne_eqb f.id x.id other)
            ∙ apart.0,
        apart_put l f xs apart.1 later,
      )
    ]

pub distinct : (low : ℕ) (fs : List Fact) → IsTrue (rises_from fact_id low fs) → HasDistinctIds fs
distinct low [] rises = tt
distinct low (f ∷ fs) rises =
    let more = and_right (nat_le low f.id) (rises_from fact_id (f.id + 1) fs) rises in
    (rises-lacks fact_id (f.id + 1) f.id fs more (omega arith), distinct (f.id + 1) fs more)

apart_at : (l : Listing) (v : ℕ) (fs : List Fact) → HasDistinctIds fs → AreApart (ids_at l fs v)
apart_at l v [] differ = tt
apart_at l v (f ∷ fs) differ =
    let r = apart_at l v fs differ.1 in
    elim (owner_of l f == v) as (λ b.
    AreApart (map fact_id (if b then put_falling l f (items_at l v fs) else items_at l v fs))) [
      | true ↦ apart_put l f (items_at l v fs) r (lacks_at l v f.id fs differ.0)
      | false ↦ r
    ]

-- an id of the list is that of the first item, or is there without it
met : (l : Listing) (v i : ℕ) (f : Fact) (fs : List Fact) → has (ids_at l (f ∷ fs) v) i ≡ true
    → (f.id == i ≡ true) ⊎ (has (ids_at l fs v) i ≡ true)
met l v i f fs there =
    elim (owner_of l f == v) as (λ b.
    has (map fact_id (if b then put_falling l f (items_at l v fs) else items_at l v fs)) i ≡ true
    → (f.id == i ≡ true) ⊎ (has (ids_at l fs v) i ≡ true)) [
      | true ↦ λ h. or_cases (f.id == i) (has (ids_at l fs v) i)
          (sym (has_put l f (items_at l v fs) i) ∙ h)
      | false ↦ λ h. inr h
    ] there

pub within_at : (l : Listing) (v size : ℕ) (fs : List Fact) → AllOf (λ f. f.id < size) fs
    → AreWithin size (ids_at l fs v)
within_at l v size [] all i there = absurd (true≢false (sym there))
within_at l v size (f ∷ fs) all i there = elim (met l v i f fs there) [
  | inl same ↦ subst (λ n. n < size) (eqb-true f.id i same) all.0
  | inr later ↦ within_at l v size fs all.1 i later
]

-- the owner of the item of an id
owner_in : Listing → List Fact → ℕ → ℕ
owner_in l [] i = 0
owner_in l (f ∷ fs) i = if f.id == i then owner_of l f else owner_in l fs i

owner_is : (l : Listing) (v i : ℕ) (fs : List Fact) → HasDistinctIds fs
    → has (ids_at l fs v) i ≡ true → v ≡ owner_in l fs i
unfolding owner_in
owner_is l v i [] differ there = absurd (true≢false (sym there))
owner_is l v i (f ∷ fs) differ there =
    elim (f.id == i) as (λ b. (f.id == i) ≡ b → v ≡ (if b then owner_of l f else owner_in l fs i)) [
      | true ↦ λ e.
          let same : f.id ≡ i = eqb-true f.id i e in
          let none : has (ids_at l fs v) i ≡ false =
          lacks_at l v i fs (subst (λ n. Lacks fact_id n fs) same differ.0) in
          elim (owner_of l f == v) as (λ b. (owner_of l f == v) ≡ b
          → has (map fact_id (if b then put_falling l f (items_at l v fs) else items_at l v fs)) i
          ≡ true → v ≡ owner_of l f) [
            | true ↦ λ o h. sym (eqb-true (owner_of l f) v o)
            | false ↦ λ o h. in_both (has (ids_at l fs v) i) h none
          ] refl there
      | false ↦ λ e. elim (met l v i f fs there) [
        | inl same ↦ absurd (true≢false (sym same ∙ e))
        | inr later ↦ owner_is l v i fs differ.1 later
      ]
    ] refl

pub owned_at : (l : Listing) (size : ℕ) (fs : List Fact) → HasDistinctIds fs
    → AllOf (λ f. f.id < size) fs → Owned size (ids_at l fs)
owned_at l size fs differ all = record {
  apart = λ v. apart_at l v fs differ;
  within = λ v. within_at l v size fs all;
  alone = λ v w i one two. owner_is l v i fs differ one ∙ sym (owner_is l w i fs differ two);
}
