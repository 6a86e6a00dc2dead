-- How often an id stands in a list: lists with the same counts are the same in another order.
use Rattle.std.proofs.Common.{◌≡◌, ℕ, zero, suc, ◌+◌, ◌<◌, ◌≤◌, Bool, true, false, cond, List, []}
use Rattle.std.proofs.Common.{◌∷◌, ◌++◌, map, ltb, T, IsPermutation, is_some, inl, inr, refl, sym}
use Rattle.std.proofs.Common.{ap, subst, ◌∙◌, arith}
use Rattle.std.specs.Prelude.{◌==◌, ◌||◌, not}
use Rattle.std.specs.List.{range_with_len}
use Rattle.std.specs.Ordering.{nat_cmp, is_lt}
use Rattle.std.specs.FinMap as fin
use Rattle.std.specs.FinMap.{is_sorted}
use Rattle.std.specs.FinMap.Entries.{below_all}
use Rattle.std.proofs.lemmas.Bool.{eq-eqb, ne_eqb, cases_eq, cases_Bool, cases_lt, and_parts}
use Rattle.std.proofs.lemmas.Bool.{or_parts, true≢false, lt-ltb, le-ltb}
use Rattle.std.proofs.lemmas.Bool.Decides.{nat_tests}
use Rattle.std.proofs.lemmas.List.Sorted.{IsPermutation-refl, IsPermutation-trans}
use Rattle.std.proofs.lemmas.List.Sorted.{IsPermutation-sym, IsPermutation-cons}
use Rattle.std.proofs.lemmas.List.Sorted.{IsPermutation-middle}
use Rattle.plain_digraph.specs.Lists.{has, without}
use Rattle.plain_digraph.specs.Items.{ids}
use Rattle.plain_digraph.specs.Valid.{AreShared}
use Rattle.plain_digraph.proofs.Tallies.{one_if, copies, tally-append, tally-IsPermutation}
use Rattle.plain_digraph.proofs.Tallies.{has-some, range_within, range_once}
use Rattle.plain_digraph.proofs.Shares.{shared_copies}
use Rattle.plain_digraph.proofs.Keys.{keys-has}

-- ---- lists with the same counts

-- where an id stands in a list
pub record HasParts (ids : List ℕ) (id : ℕ) : Type 0 where
  pub front : List ℕ
  pub back : List ℕ
  pub parts : ids ≡ front ++ id ∷ back

pub parts_at : (ids : List ℕ) (id : ℕ) → has ids id ≡ true → HasParts ids id
parts_at [] id at = absurd (true≢false (sym at))
parts_at (x ∷ ids) id at = elim (cases_eq x id) [
  | inl same ↦ record { front = []; back = ids; parts = ap (λ y. y ∷ ids) same }
  | inr other ↦
      let later : has ids id ≡ true = sym (ap (λ b. b || has ids id) (ne_eqb x id other)) ∙ at in
      let rest = parts_at ids id later in
      record { front = x ∷ rest.front; back = rest.back; parts = ap (λ xs. x ∷ xs) rest.parts }
]

pub lacks-none : (ids : List ℕ) (id : ℕ) → has ids id ≡ false → copies ids id ≡ 0
lacks-none [] id lacks = refl
lacks-none (x ∷ ids) id lacks =
    elim (x == id) as (λ b. (b || has ids id) ≡ false → one_if b + copies ids id ≡ 0) [
      | true ↦ λ e. absurd (true≢false e)
      | false ↦ λ e. omega (arith, lacks-none ids id e)
    ] lacks

pub some-has : (ids : List ℕ) (id : ℕ) → 0 < copies ids id → has ids id ≡ true
some-has ids id some = elim (cases_Bool (has ids id)) [
  | inl at ↦ at
  | inr lacks ↦ absurd (omega (arith, some, lacks-none ids id lacks))
]

pub copies-here : (ids : List ℕ) (id : ℕ) → copies (id ∷ ids) id ≡ 1 + copies ids id
copies-here ids id = ap (λ b. one_if b + copies ids id) (eq-eqb id id refl)

pub copies-other : (ids : List ℕ) (x id : ℕ) → (x ≡ id → ⊥) → copies (x ∷ ids) id ≡ copies ids id
copies-other ids x id other = omega (arith, ap (λ b. one_if b + copies ids id) (ne_eqb x id other))

copies-middle : (front back : List ℕ) (x id : ℕ)
    → copies (front ++ x ∷ back) id ≡ copies (x ∷ (front ++ back)) id
copies-middle front back x id =
    let is_it : ℕ → Bool = λ y. y == id in
    omega (arith, tally-append is_it front (x ∷ back), tally-append is_it front back)

pub same_copies : (xs ys : List ℕ) → ((id : ℕ) → copies xs id ≡ copies ys id) → IsPermutation xs ys
same_copies [] [] same = IsPermutation-refl []
same_copies [] (y ∷ ys) same = absurd (omega (arith, same y, copies-here ys y))
same_copies (x ∷ xs) ys same =
    let at = parts_at ys x (some-has ys x (omega (arith, same x, copies-here xs x))) in
    let rest : (id : ℕ) → copies xs id ≡ copies (at.front ++ at.back) id = λ id.
    let both = same id ∙ ap (λ l. copies l id) at.parts ∙ copies-middle at.front at.back x id in
    omega (arith, both) in
    let order = IsPermutation-sym (at.front ++ x ∷ at.back) (x ∷ (at.front ++ at.back))
    (IsPermutation-middle at.front x at.back) in
    subst (IsPermutation (x ∷ xs)) (sym at.parts)
    (IsPermutation-trans (x ∷ xs) (x ∷ (at.front ++ at.back)) (at.front ++ x ∷ at.back)
    (IsPermutation-cons x xs (at.front ++ at.back) (same_copies xs (at.front ++ at.back) rest))
    order)

-- lists in another order have the same counts
pub copies_alike : (xs ys : List ℕ) (id : ℕ) → IsPermutation xs ys → copies xs id ≡ copies ys id
copies_alike xs ys id order = sym (tally-IsPermutation (λ x. x == id) xs ys order)

-- ---- the ids below a bound

range_some : (a n id : ℕ) → a ≤ id → id < a + n → copies (range_with_len a n) id ≡ 1
range_some a zero id low high = absurd (omega (arith, low, high))
range_some a (suc n) id low high = elim (cases_eq a id) [
  | inl same ↦ omega (arith, ap one_if (eq-eqb a id same), range_once a (suc n) id)
  | inr other ↦
      omega (
        arith,
        ap one_if (ne_eqb a id other),
        range_some (a + 1) n id (omega (arith, low, other)) (omega (arith, high)),
      )
]

pub copies-range : (n id : ℕ) → copies (range_with_len 0 n) id ≡ one_if (ltb id n)
copies-range n id = elim (cases_lt id n) [
  | inl below ↦ range_some 0 n id (omega arith) (omega (arith, below))
      ∙ ap one_if (sym (lt-ltb id n below))
  | inr above ↦
      let none : copies (range_with_len 0 n) id ≡ 0 =
      elim (cases_lt 0 (copies (range_with_len 0 n) id)) [
        | inl some ↦ let within =
            range_within 0 n id some in absurd (omega (arith, within.1, above))
        | inr no_more ↦ omega (arith, no_more)
      ] in
      none ∙ ap one_if (sym (le-ltb id n above))
]

-- the counts of the live and of the free ids say that they share the numbers below the bound
pub shared_counts : (live free : List ℕ) (used : ℕ)
    → ((id : ℕ) → copies live id + copies free id ≡ one_if (ltb id used)) → AreShared live free used
shared_counts live free used counts =
    same_copies (live ++ free) (range_with_len 0 used)
    (λ id. tally-append (λ x. x == id) live free ∙ counts id ∙ sym (copies-range used id))

pub counts_shared : (live free : List ℕ) (used id : ℕ) → AreShared live free used
    → copies live id + copies free id ≡ one_if (ltb id used)
counts_shared live free used id shared = shared_copies live free used id shared
    ∙ copies-range used id

-- ---- a list without an id

pub copies-without : (ids : List ℕ) (id : ℕ) → copies (without ids id) id ≡ 0
copies-without [] id = refl
copies-without (x ∷ ids) id =
    let rest = copies-without ids id in
    elim (cases_eq x id) [
      | inl same ↦
          ap (λ b. copies (cond (not b) (x ∷ without ids id) (without ids id)) id)
          (eq-eqb x id same) ∙ rest
      | inr other ↦
          ap (λ b. copies (cond (not b) (x ∷ without ids id) (without ids id)) id)
          (ne_eqb x id other) ∙ copies-other (without ids id) x id other ∙ rest
    ]

pub copies-without_other : (ids : List ℕ) (id x : ℕ) → (x ≡ id → ⊥)
    → copies (without ids id) x ≡ copies ids x
copies-without_other [] id x other = refl
copies-without_other (y ∷ ids) id x other =
    let rest = copies-without_other ids id x other in
    elim (cases_eq y id) [
      | inl same ↦
          ap (λ b. copies (cond (not b) (y ∷ without ids id) (without ids id)) x) (eq-eqb y id same)
          ∙ rest
          ∙ sym (copies-other ids y x (λ e. other (sym e ∙ same)))
      | inr apart ↦
          ap (λ b. copies (cond (not b) (y ∷ without ids id) (without ids id)) x)
          (ne_eqb y id apart)
          ∙ ap (λ n. one_if (y == x) + n) rest
    ]

-- an id that isn't there is taken out of nothing
pub without-lacks : (ids : List ℕ) (id : ℕ) → has ids id ≡ false → without ids id ≡ ids
without-lacks [] id lacks = refl
without-lacks (x ∷ ids) id lacks = elim (cases_eq x id) [
  | inl same ↦
      absurd (true≢false (sym (eq-eqb x id same) ∙ (or_parts (x == id) (has ids id) lacks).0))
  | inr other ↦
      ap (λ b. cond (not b) (x ∷ without ids id) (without ids id)) (ne_eqb x id other)
      ∙ ap (λ xs. x ∷ xs) (without-lacks ids id (or_parts (x == id) (has ids id) lacks).1)
]

-- without an id that stands in the middle, and nowhere else
pub without-parts : (front back : List ℕ) (id : ℕ) → has front id ≡ false → has back id ≡ false
    → without (front ++ id ∷ back) id ≡ front ++ back
without-parts [] back id none_before none_behind =
    ap (λ b. cond (not b) (id ∷ without back id) (without back id)) (eq-eqb id id refl)
    ∙ without-lacks back id none_behind
without-parts (x ∷ front) back id none_before none_behind =
    let parts = or_parts (x == id) (has front id) none_before in
    ap (λ b. cond (not b) (x ∷ without (front ++ id ∷ back) id) (without (front ++ id ∷ back) id))
    parts.0
    ∙ ap (λ xs. x ∷ xs) (without-parts front back id parts.1 none_behind)

-- ---- the keys of a map

less_apart : (x y : ℕ) → is_lt (nat_cmp x y) ≡ true → y ≡ x → ⊥
less_apart x y less same = grind (arith, nat_tests)

from_T : {b : Bool} → T b → b ≡ true
from_T {b = true} h = refl
from_T {b = false} h = absurd h

below_none : {X : Type 0} (es : List (ℕ × X)) (x : ℕ) → below_all nat_cmp x es ≡ true
    → copies (map (λ e. e.0) es) x ≡ 0
below_none [] x below = refl
below_none (e ∷ es) x below =
    let parts = and_parts (is_lt (nat_cmp x e.0)) (below_all nat_cmp x es) below in
    let apart : e.0 ≡ x → ⊥ = λ same. less_apart x e.0 parts.0 same in
    copies-other (map (λ e. e.0) es) e.0 x apart ∙ below_none es x parts.1

sorted_once : {X : Type 0} (es : List (ℕ × X)) (id : ℕ) → is_sorted nat_cmp es ≡ true
    → copies (map (λ e. e.0) es) id ≤ 1
sorted_once [] id sorted = omega arith
sorted_once (e ∷ es) id sorted =
    let parts = and_parts (below_all nat_cmp e.0 es) (is_sorted nat_cmp es) sorted in
    elim (cases_eq e.0 id) [
      | inl same ↦
          let none : copies (map (λ e. e.0) es) id ≡ 0 = ap (copies (map (λ e. e.0) es)) (sym same)
          ∙ below_none es e.0 parts.0 in
          omega (arith, none, ap one_if (eq-eqb e.0 id same))
      | inr other ↦
          omega (arith, sorted_once es id parts.1, copies-other (map (λ e. e.0) es) e.0 id other)
    ]

-- a key stands once where something is found
pub copies-keys : {X : Type 0} (m : fin.FinMap nat_cmp X) (id : ℕ)
    → copies (fin.keys m) id ≡ one_if (is_some (fin.get m id))
copies-keys m id =
    let once = sorted_once (fin.entries m) id (from_T (fin.entries_sorted m)) in
    elim (cases_Bool (has (fin.keys m) id)) [
      | inl at ↦ omega (arith, once, has-some (fin.keys m) id at, ap one_if (keys-has m id ∙ at))
      | inr lacks ↦ lacks-none (fin.keys m) id lacks ∙ ap one_if (sym (keys-has m id ∙ lacks))
    ]
