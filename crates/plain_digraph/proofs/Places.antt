-- Lists of places without an id, and with an id at the place of its stamp.
use Rattle.std.proofs.Common.{◌≡◌, ℕ, ◌+◌, ◌<◌, ◌≤◌, true, false, cond, ltb, List, [], ◌∷◌, length}
use Rattle.std.proofs.Common.{map, Some, None, inl, inr, refl, sym, ap, subst, ◌∙◌, arith}
use Rattle.std.specs.Prelude.{◌==◌, ◌||◌, not}
use Rattle.std.proofs.lemmas.Bool.{eq-eqb, ne_eqb, cases_eq, cases_lt, lt-ltb, le-ltb, or_parts}
use Rattle.std.proofs.lemmas.Bool.{true≢false}
use Rattle.plain_digraph.specs.Lists.{has, without}
use Rattle.plain_digraph.specs.Digraph.{Place}
use Rattle.plain_digraph.specs.Items.{ids, stamp_of}
use Rattle.plain_digraph.specs.Steps.{unplaced, placed, in_front, by_stamp}
use Rattle.plain_digraph.specs.Valid.{FallBelow}
use Rattle.std.proofs.lemmas.Option.{none-some, same_Some}
use Rattle.plain_digraph.proofs.Tallies.{one_if, copies, has-none}
use Rattle.plain_digraph.proofs.Filters.{tally-filter}
use Rattle.plain_digraph.proofs.Rows.{stamp_new, stamp_other, fall_within}
use Rattle.plain_digraph.proofs.Counts.{copies-here, copies-other, copies-without}
use Rattle.plain_digraph.proofs.Counts.{copies-without_other}

pub ids-unplaced : (places : List Place) (id : ℕ)
    → ids (unplaced places id) ≡ without (ids places) id
ids-unplaced [] id = refl
ids-unplaced (p ∷ places) id =
    let rest = ids-unplaced places id in
    elim (p.0 == id) as (λ b. ids (cond (not b) (p ∷ unplaced places id) (unplaced places id))
    ≡ cond (not b) (p.0 ∷ without (ids places) id) (without (ids places) id)) [
      | true ↦ rest
      | false ↦ ap (λ xs. p.0 ∷ xs) rest
    ]

-- ---- counts

-- where the id stands once, it may be taken out and put back
pub copies-unplaced : (places : List Place) (id x : ℕ) → copies (ids places) id ≡ 1
    → copies (id ∷ ids (unplaced places id)) x ≡ copies (ids places) x
copies-unplaced places id x once =
    let less = ap (λ xs. copies (id ∷ xs) x) (ids-unplaced places id) in
    less ∙ elim (cases_eq x id) [
      | inl same ↦
          ap (copies (id ∷ without (ids places) id)) same ∙ copies-here (without (ids places) id) id
          ∙ ap (λ n. 1 + n) (copies-without (ids places) id) ∙ sym once
          ∙ ap (copies (ids places)) (sym same)
      | inr other ↦ copies-other (without (ids places) id) id x (λ e. other (sym e))
          ∙ copies-without_other (ids places) id x other
    ]

pub copies-placed : (places : List Place) (id at x : ℕ)
    → copies (ids (placed places id at)) x ≡ copies (id ∷ ids places) x
copies-placed [] id at x = refl
copies-placed (p ∷ places) id at x =
    let rest = copies-placed places id at x in
    elim (ltb p.1 at) as (λ b.
    copies (ids (cond b ((id, at) ∷ p ∷ places) (p ∷ placed places id at))) x
    ≡ copies (id ∷ p.0 ∷ ids places) x) [
      | true ↦ refl
      | false ↦ omega (arith, rest)
    ]

pub copies-by_stamp : (places : List Place) (id at x : ℕ) → copies (ids places) id ≡ 1
    → copies (ids (by_stamp places id at)) x ≡ copies (ids places) x
copies-by_stamp places id at x once = copies-placed (unplaced places id) id at x
    ∙ copies-unplaced places id x once

-- ---- stamps fall

pub fall-unplaced : (bound : ℕ) (places : List Place) (id : ℕ) → FallBelow bound places
    → FallBelow bound (unplaced places id)
fall-unplaced bound [] id fall = tt
fall-unplaced bound (p ∷ places) id fall =
    let rest = fall-unplaced p.1 places id fall.1 in
    let below = fall.0 in
    elim (p.0 == id) as (λ b.
    FallBelow bound (cond (not b) (p ∷ unplaced places id) (unplaced places id))) [
      | true ↦ fall_within p.1 bound (unplaced places id) (omega (arith, below)) rest
      | false ↦ (below, rest)
    ]

pub fall-placed : (bound : ℕ) (places : List Place) (id at : ℕ) → at < bound
    → has (map (λ p. p.1) places) at ≡ false
    → FallBelow bound places → FallBelow bound (placed places id at)
fall-placed bound [] id at below apart fall = (below, tt)
fall-placed bound (p ∷ places) id at below apart fall =
    let parts = or_parts (p.1 == at) (has (map (λ q. q.1) places) at) apart in
    let other : p.1 ≡ at → ⊥ = λ e. true≢false (sym (eq-eqb p.1 at e) ∙ parts.0) in
    let head = fall.0 in
    elim (cases_lt p.1 at) [
      | inl lower ↦
          subst (λ b. FallBelow bound (cond b ((id, at) ∷ p ∷ places) (p ∷ placed places id at)))
          (sym (lt-ltb p.1 at lower)) (below, (lower, fall.1))
      | inr higher ↦
          let strictly : at < p.1 = omega (arith, higher, other) in
          subst (λ b. FallBelow bound (cond b ((id, at) ∷ p ∷ places) (p ∷ placed places id at)))
          (sym (le-ltb p.1 at higher))
          (head, fall-placed p.1 places id at strictly parts.1 fall.1)
    ]

pub fall-in_front : (places : List Place) (id at : ℕ) → FallBelow at places
    → FallBelow (at + 1) (in_front places id at)
fall-in_front places id at fall = (omega arith, fall-unplaced at places id fall)

-- ---- the stamp of an id

pub stamp_of-unplaced : (places : List Place) (id x : ℕ) → (x ≡ id → ⊥)
    → stamp_of (unplaced places id) x ≡ stamp_of places x
stamp_of-unplaced [] id x other = refl
stamp_of-unplaced (p ∷ places) id x other =
    let rest = stamp_of-unplaced places id x other in
    elim (cases_eq p.0 id) [
      | inl same ↦
          ap (λ b. stamp_of (cond (not b) (p ∷ unplaced places id) (unplaced places id)) x)
          (eq-eqb p.0 id same) ∙ rest
          ∙ ap (λ b. cond b (Some p.1) (stamp_of places x))
          (sym (ne_eqb p.0 x (λ e. other (sym e ∙ same))))
      | inr apart ↦
          ap (λ b. stamp_of (cond (not b) (p ∷ unplaced places id) (unplaced places id)) x)
          (ne_eqb p.0 id apart)
          ∙ ap (cond (p.0 == x) (Some p.1)) rest
    ]

pub stamp_of-lacks : (places : List Place) (id : ℕ) → has (ids places) id ≡ false
    → stamp_of places id ≡ None
stamp_of-lacks [] id lacks = refl
stamp_of-lacks (p ∷ places) id lacks =
    let parts = or_parts (p.0 == id) (has (ids places) id) lacks in
    ap (λ b. cond b (Some p.1) (stamp_of places id)) parts.0 ∙ stamp_of-lacks places id parts.1

pub unplaced-lacks : (places : List Place) (id : ℕ) → has (ids (unplaced places id)) id ≡ false
unplaced-lacks [] id = refl
unplaced-lacks (p ∷ places) id =
    let rest = unplaced-lacks places id in
    elim (p.0 == id) as (λ b. (p.0 == id) ≡ b
    → has (ids (cond (not b) (p ∷ unplaced places id) (unplaced places id))) id ≡ false) [
      | true ↦ λ e. rest
      | false ↦ λ e. ap (λ b. b || has (ids (unplaced places id)) id) e ∙ rest
    ] refl

pub stamp_of-gone : (places : List Place) (id : ℕ) → stamp_of (unplaced places id) id ≡ None
stamp_of-gone places id = stamp_of-lacks (unplaced places id) id (unplaced-lacks places id)

pub stamp_of-placed : (places : List Place) (id at : ℕ) → has (ids places) id ≡ false
    → stamp_of (placed places id at) id ≡ Some at
stamp_of-placed [] id at lacks = stamp_new [] id at
stamp_of-placed (p ∷ places) id at lacks =
    let parts = or_parts (p.0 == id) (has (ids places) id) lacks in
    let rest = stamp_of-placed places id at parts.1 in
    elim (ltb p.1 at) as (λ b.
    stamp_of (cond b ((id, at) ∷ p ∷ places) (p ∷ placed places id at)) id ≡ Some at) [
      | true ↦ stamp_new (p ∷ places) id at
      | false ↦ ap (λ b. cond b (Some p.1) (stamp_of (placed places id at) id)) parts.0 ∙ rest
    ]

pub stamp_of-placed_other : (places : List Place) (id at x : ℕ) → (x ≡ id → ⊥)
    → stamp_of (placed places id at) x ≡ stamp_of places x
stamp_of-placed_other [] id at x other = stamp_other [] id x at other
stamp_of-placed_other (p ∷ places) id at x other =
    let rest = stamp_of-placed_other places id at x other in
    elim (ltb p.1 at) as (λ b. stamp_of (cond b ((id, at) ∷ p ∷ places) (p ∷ placed places id at)) x
    ≡ cond (p.0 == x) (Some p.1) (stamp_of places x)) [
      | true ↦ stamp_other (p ∷ places) id x at other
      | false ↦ ap (cond (p.0 == x) (Some p.1)) rest
    ]

pub stamp_of-by_stamp : (places : List Place) (id at : ℕ)
    → stamp_of (by_stamp places id at) id ≡ Some at
stamp_of-by_stamp places id at =
    stamp_of-placed (unplaced places id) id at (unplaced-lacks places id)

pub stamp_of-by_stamp_other : (places : List Place) (id at x : ℕ) → (x ≡ id → ⊥)
    → stamp_of (by_stamp places id at) x ≡ stamp_of places x
stamp_of-by_stamp_other places id at x other =
    stamp_of-placed_other (unplaced places id) id at x other ∙ stamp_of-unplaced places id x other

pub stamp_of-in_front : (places : List Place) (id at x : ℕ) → (x ≡ id → ⊥)
    → stamp_of (in_front places id at) x ≡ stamp_of places x
stamp_of-in_front places id at x other = stamp_other (unplaced places id) id x at other
    ∙ stamp_of-unplaced places id x other

-- ---- an id that goes back to its place

-- a stamp of the list is below its bound
pub stamp_below : (bound : ℕ) (places : List Place) (id at : ℕ) → FallBelow bound places
    → stamp_of places id ≡ Some at → at < bound
stamp_below bound [] id at fall e = absurd (none-some at e)
stamp_below bound (p ∷ places) id at fall e =
    let head = fall.0 in
    elim (cases_eq p.0 id) [
      | inl same ↦
          let is : p.1 ≡ at =
          same_Some p.1 at
          (sym (ap (λ b. cond b (Some p.1) (stamp_of places id)) (eq-eqb p.0 id same)) ∙ e) in
          omega (arith, is, head)
      | inr other ↦
          let later : stamp_of places id ≡ Some at =
          sym (ap (λ b. cond b (Some p.1) (stamp_of places id)) (ne_eqb p.0 id other)) ∙ e in
          let below = stamp_below p.1 places id at fall.1 later in
          omega (arith, below, head)
    ]

-- where all stamps are below one, it stands in front
placed-first : (places : List Place) (id at : ℕ) → FallBelow at places
    → placed places id at ≡ (id, at) ∷ places
placed-first [] id at fall = refl
placed-first (p ∷ places) id at fall =
    ap (λ b. cond b ((id, at) ∷ p ∷ places) (p ∷ placed places id at)) (lt-ltb p.1 at fall.0)

pub unplaced-same : (places : List Place) (id : ℕ) → has (ids places) id ≡ false
    → unplaced places id ≡ places
unplaced-same [] id lacks = refl
unplaced-same (p ∷ places) id lacks =
    let parts = or_parts (p.0 == id) (has (ids places) id) lacks in
    ap (λ b. cond (not b) (p ∷ unplaced places id) (unplaced places id)) parts.0
    ∙ ap (λ l. p ∷ l) (unplaced-same places id parts.1)

pub by_stamp-back : (bound : ℕ) (places : List Place) (id at : ℕ) → FallBelow bound places
    → copies (ids places) id ≤ 1
    → stamp_of places id ≡ Some at → by_stamp places id at ≡ places
by_stamp-back bound [] id at fall few e = absurd (none-some at e)
by_stamp-back bound (p ∷ places) id at fall few e =
    elim (cases_eq p.0 id) [
      | inl same ↦
          let is : p.1 ≡ at =
          same_Some p.1 at
          (sym (ap (λ b. cond b (Some p.1) (stamp_of places id)) (eq-eqb p.0 id same)) ∙ e) in
          let lacks : has (ids places) id ≡ false =
          has-none (ids places) id (omega (arith, few, ap one_if (eq-eqb p.0 id same))) in
          ap (λ b. placed (cond (not b) (p ∷ unplaced places id) (unplaced places id)) id at)
          (eq-eqb p.0 id same)
          ∙ ap (λ l. placed l id at) (unplaced-same places id lacks)
          ∙ placed-first places id at (subst (λ n. FallBelow n places) is fall.1)
          ∙ sym (ap (λ i. (i, p.1) ∷ places) same ∙ ap (λ i. (id, i) ∷ places) is)
      | inr other ↦
          let later : stamp_of places id ≡ Some at =
          sym (ap (λ b. cond b (Some p.1) (stamp_of places id)) (ne_eqb p.0 id other)) ∙ e in
          let below = stamp_below p.1 places id at fall.1 later in
          let rest = by_stamp-back p.1 places id at fall.1
          (omega (arith, few, ap one_if (ne_eqb p.0 id other))) later in
          ap (λ b. placed (cond (not b) (p ∷ unplaced places id) (unplaced places id)) id at)
          (ne_eqb p.0 id other)
          ∙ ap (λ b. cond b ((id, at) ∷ p ∷ unplaced places id)
          (p ∷ placed (unplaced places id) id at)) (le-ltb p.1 at (omega (arith, below)))
          ∙ ap (λ l. p ∷ l) rest
    ]

-- no id stands more often where one is taken out
pub few-unplaced : (places : List Place) (id x : ℕ) → copies (ids places) x ≤ 1
    → copies (ids (unplaced places id)) x ≤ 1
few-unplaced places id x few =
    let same = ap (λ l. copies l x) (ids-unplaced places id) in
    let less = tally-filter (λ y. y == x) (λ y. not (y == id)) (ids places) in
    omega (arith, same, less, few)

-- where the id stands once, one place is less
pub length-unplaced : (places : List Place) (id : ℕ) → copies (ids places) id ≡ 1
    → length (unplaced places id) + 1 ≡ length places
length-unplaced [] id once = absurd (omega (arith, once))
length-unplaced (p ∷ places) id once = elim (cases_eq p.0 id) [
  | inl same ↦
      let lacks : has (ids places) id ≡ false =
      has-none (ids places) id (omega (arith, once, ap one_if (eq-eqb p.0 id same))) in
      let less : unplaced (p ∷ places) id ≡ places =
      ap (λ b. cond (not b) (p ∷ unplaced places id) (unplaced places id)) (eq-eqb p.0 id same)
      ∙ unplaced-same places id lacks in
      let size = ap length less in
      omega (arith, size)
  | inr other ↦
      let rest = length-unplaced places id (omega (arith, once, ap one_if (ne_eqb p.0 id other))) in
      let less : unplaced (p ∷ places) id ≡ p ∷ unplaced places id =
      ap (λ b. cond (not b) (p ∷ unplaced places id) (unplaced places id)) (ne_eqb p.0 id other) in
      let size = ap length less in
      omega (arith, size, rest)
]

pub length-placed : (places : List Place) (id at : ℕ)
    → length (placed places id at) ≡ length places + 1
length-placed [] id at = refl
length-placed (p ∷ places) id at =
    let rest = length-placed places id at in
    elim (ltb p.1 at) as (λ b. length (cond b ((id, at) ∷ p ∷ places) (p ∷ placed places id at))
    ≡ length (p ∷ places) + 1) [
      | true ↦ omega arith
      | false ↦ omega (arith, rest)
    ]
