-- Names and ids of which some are left out.
use Rattle.std.proofs.Common.{◌≡◌, ℕ, zero, suc, ◌+◌, ◌<◌, ◌≤◌, Bool, true, false, cond, refl, sym}
use Rattle.std.proofs.Common.{◌∙◌, ap, subst, List, [], ◌∷◌, map, filter, length, All, inl, inr}
use Rattle.std.proofs.Common.{arith}
use Rattle.std.specs.Prelude.{◌==◌, ◌||◌, position, unwrap_or, Some, None}
use Rattle.std.specs.List.{range_with_len, list_any, position_or_len}
use Rattle.std.specs.Str.{bytes_eq}
use Rattle.std.proofs.lemmas.Bool.{or_parts, or_from, or_right, false_from_ne_true, cases_eq}
use Rattle.std.proofs.lemmas.Bool.{eq-eqb, true≢false, cases_lt, lt-ltb, le-ltb}
use Rattle.std.proofs.lemmas.List.Elements.{All-nil, All-cons}
use Rattle.std.proofs.lemmas.Slice.Eq.{bytes_eq-Decides}
use Rattle.token_text.specs.Names.{is_among, has_twice}
use Rattle.plain_digraph.specs.Lists.{has}
use Rattle.plain_world.specs.Tables.{Name, Named}

abbrev pub names : {X : Type 0} → List (Named X) → List Name
names table = map (λ e. e.name) table

-- ---- names

-- a name that isn't among those of a table isn't among those of a part of it
pub among_filter : {X : Type 0} (name : Name) (test : Named X → Bool) (es : List (Named X))
    → is_among name (names es) ≡ false → is_among name (names (filter test es)) ≡ false
among_filter name test [] none = refl
among_filter name test (e ∷ es) none =
    let parts = or_parts (bytes_eq name e.name) (is_among name (names es)) none in
    let rest = among_filter name test es parts.1 in
    elim (test e) as (λ b. is_among name (names (cond b (e ∷ filter test es) (filter test es)))
    ≡ false) [
      | true ↦
          or_from (bytes_eq name e.name) (is_among name (names (filter test es))) parts.0 rest
      | false ↦ rest
    ]

-- where no name of a table stands twice, none does in a part of it
pub differ_filter : {X : Type 0} (test : Named X → Bool) (es : List (Named X))
    → has_twice (names es) ≡ false → has_twice (names (filter test es)) ≡ false
differ_filter test [] differ = refl
differ_filter test (e ∷ es) differ =
    let parts = or_parts (is_among e.name (names es)) (has_twice (names es)) differ in
    let rest = differ_filter test es parts.1 in
    elim (test e) as (λ b. has_twice (names (cond b (e ∷ filter test es) (filter test es)))
    ≡ false) [
      | true ↦
          or_from (is_among e.name (names (filter test es))) (has_twice (names (filter test es)))
          (among_filter e.name test es parts.0) rest
      | false ↦ rest
    ]

-- ---- ids of a range

module _ (test : ℕ → Bool) where
  -- what holds of each that passes holds of all
  pub all_passing : {X : Type 0} (make : ℕ → X) (P : X → Type 0)
      → ((id : ℕ) → test id ≡ true → P (make id)) → (ids : List ℕ)
      → All P (map make (filter test ids))
  all_passing make P holds [] = All-nil P
  all_passing make P holds (id ∷ ids) =
      let rest = all_passing make P holds ids in
      elim (test id) as (λ b. test id ≡ b
      → All P (map make (cond b (id ∷ filter test ids) (filter test ids)))) [
        | true ↦ λ passes.
            All-cons P (make id) (map make (filter test ids)) (holds id passes) rest
        | false ↦ λ fails. rest
      ] refl

  -- an id of the range that passes is listed
  pub range_listed : (a n id : ℕ) → a ≤ id → id < a + n → test id ≡ true
      → has (filter test (range_with_len a n)) id ≡ true
  range_listed a zero id low high passes = absurd (omega (arith, low, high))
  range_listed a (suc n) id low high passes =
      let rest = filter test (range_with_len (a + 1) n) in
      elim (cases_eq a id) [
        | inl same ↦ subst (λ b. has (cond b (a ∷ rest) rest) id ≡ true)
            (sym (ap test same ∙ passes)) (first same rest)
        | inr other ↦
            let more = range_listed (a + 1) n id (omega (arith, low, other)) (omega (arith, high))
            passes in
            elim (test a) as (λ b. has (cond b (a ∷ rest) rest) id ≡ true) [
              | true ↦ or_right (a == id) (has rest id) more
              | false ↦ more
            ]
      ]
    where
      first : a ≡ id → (rest : List ℕ) → has (a ∷ rest) id ≡ true
      first same rest = ap (λ b. b || has rest id) (eq-eqb a id same)

  module _ (label : ℕ → Name)
      (differ : (id other : ℕ) → test id ≡ true → test other ≡ true → label id ≡ label other
      → id ≡ other) where
    -- the label of an id isn't among those of a range above it
    none_above : (b a n : ℕ) → b < a → test b ≡ true
        → is_among (label b) (map label (filter test (range_with_len a n))) ≡ false
    none_above b a zero above passes = refl
    none_above b a (suc n) above passes =
        let rest = filter test (range_with_len (a + 1) n) in
        let more = none_above b (a + 1) n (omega (arith, above)) passes in
        elim (test a) as (λ t. test a ≡ t
        → is_among (label b) (map label (cond t (a ∷ rest) rest)) ≡ false) [
          | true ↦ λ also.
              or_from (bytes_eq (label b) (label a)) (is_among (label b) (map label rest))
              (false_from_ne_true (bytes_eq (label b) (label a)) (λ same.
              let e = differ b a passes also ((bytes_eq-Decides (label b) (label a)).0 same) in
              omega (arith, e, above))) more
          | false ↦ λ not. more
        ] refl

    -- no label stands twice
    pub labels_once : (a n : ℕ)
        → has_twice (map label (filter test (range_with_len a n))) ≡ false
    labels_once a zero = refl
    labels_once a (suc n) =
        let rest = filter test (range_with_len (a + 1) n) in
        let more = labels_once (a + 1) n in
        elim (test a) as (λ t. test a ≡ t
        → has_twice (map label (cond t (a ∷ rest) rest)) ≡ false) [
          | true ↦ λ passes.
              or_from (is_among (label a) (map label rest)) (has_twice (map label rest))
              (none_above a (a + 1) n (omega arith) passes) more
          | false ↦ λ not. more
        ] refl

-- ---- places

-- the place at which a test is passed is within the list
pub place_within : (test : ℕ → Bool) (ids : List ℕ) → list_any test ids ≡ true
    → unwrap_or (position test ids) 0 < length ids
place_within test [] some = absurd (true≢false (sym some))
place_within test (id ∷ ids) some =
    let at = position_or_len test (id ∷ ids) in
    let size = suc (length ids) in
    elim (cases_lt at size) [
      | inl under ↦ subst (λ b. unwrap_or (cond b (Some at) None) 0 < size)
          (sym (lt-ltb at size under)) under
      | inr over ↦ subst (λ b. unwrap_or (cond b (Some at) None) 0 < size)
          (sym (le-ltb at size over)) (omega arith)
    ]
