-- A list of places that falls by stamp is what its facts tell of, put in one by one.
use Rattle.std.proofs.Common.{◌≡◌, ℕ, zero, suc, ◌+◌, ◌<◌, ◌≤◌, true, false, cond, List, [], ◌∷◌}
use Rattle.std.proofs.Common.{map, filter, Some, None, Option, refl, sym, ap, ◌∙◌, inl, inr, arith}
use Rattle.std.specs.Prelude.{◌==◌, nat_le, not}
use Rattle.std.specs.List.{filter_map, cons_option, range_with_len}
use Rattle.std.proofs.lemmas.Bool.{eq-eqb, ne_eqb, cases_eq, cases_lt, or_left, or_right}
use Rattle.base_items.specs.declared.items.Fact.{Fact}
use Rattle.plain_digraph.specs.Lists.{has}
use Rattle.plain_digraph.specs.Digraph.{Place}
use Rattle.plain_digraph.specs.Items.{ids, stamp_of}
use Rattle.plain_digraph.specs.Steps.{unplaced, placed}
use Rattle.plain_digraph.specs.Falling.{by_falling}
use Rattle.plain_digraph.specs.Valid.{FallBelow}
use Rattle.plain_digraph.proofs.Tallies.{one_if, copies, has-none}
use Rattle.plain_digraph.proofs.Counts.{lacks-none}
use Rattle.plain_digraph.proofs.Facts.{IsNamed}
use Rattle.plain_digraph.proofs.Tellings.{is_within, is_above}
use Rattle.plain_digraph.proofs.Places.{unplaced-same, by_stamp-back}
use Rattle.plain_digraph.proofs.Rows.{fall_within}

-- ---- the places of the ids from a bound on

abbrev from_id : ℕ → List Place → List Place
from_id a places = filter (λ p. nat_le a p.0) places

from_id-none : (a : ℕ) (places : List Place) → ((id : ℕ) → has (ids places) id ≡ true → id < a)
    → from_id a places ≡ []
from_id-none a [] below = refl
from_id-none a (p ∷ places) below =
    let head = below p.0 (or_left (p.0 == p.0) (has (ids places) p.0) (eq-eqb p.0 p.0 refl)) in
    ap (λ b. cond b (p ∷ from_id a places) (from_id a places)) (is_above a p.0 head)
    ∙ from_id-none a places (λ id at. below id (or_right (p.0 == id) (has (ids places) id) at))

from_id-all : (places : List Place) → from_id 0 places ≡ places
from_id-all [] = refl
from_id-all (p ∷ places) =
    ap (λ b. cond b (p ∷ from_id 0 places) (from_id 0 places)) (is_within 0 p.0 (omega arith))
    ∙ ap (λ l. p ∷ l) (from_id-all places)

from_id-later : (a : ℕ) (places : List Place)
    → from_id (a + 1) places ≡ unplaced (from_id a places) a
from_id-later a [] = refl
from_id-later a (p ∷ places) =
    let rest = from_id-later a places in
    let here : List Place = from_id a places in
    let later : List Place = from_id (a + 1) places in
    elim (cases_lt p.0 a) [
      | inl below ↦
          ap (λ b. cond b (p ∷ later) later) (is_above (a + 1) p.0 (omega (arith, below))) ∙ rest
          ∙ ap (λ b. unplaced (cond b (p ∷ here) here) a) (sym (is_above a p.0 below))
      | inr not_below ↦ elim (cases_eq p.0 a) [
        | inl same ↦
            ap (λ b. cond b (p ∷ later) later) (is_above (a + 1) p.0 (omega (arith, same))) ∙ rest
            ∙ ap (λ b. cond (not b) (p ∷ unplaced here a) (unplaced here a))
            (sym (eq-eqb p.0 a same))
            ∙ ap (λ b. unplaced (cond b (p ∷ here) here) a)
            (sym (is_within a p.0 (omega (arith, same))))
        | inr other ↦
            ap (λ b. cond b (p ∷ later) later)
            (is_within (a + 1) p.0 (omega (arith, not_below, other))) ∙ ap (λ l. p ∷ l) rest
            ∙ ap (λ b. cond (not b) (p ∷ unplaced here a) (unplaced here a))
            (sym (ne_eqb p.0 a other))
            ∙ ap (λ b. unplaced (cond b (p ∷ here) here) a)
            (sym (is_within a p.0 (omega (arith, not_below))))
      ]
    ]

from_id-fall : (a bound : ℕ) (places : List Place) → FallBelow bound places
    → FallBelow bound (from_id a places)
from_id-fall a bound [] fall = tt
from_id-fall a bound (p ∷ places) fall =
    let rest = from_id-fall a p.1 places fall.1 in
    let below = fall.0 in
    elim (nat_le a p.0) as (λ b. FallBelow bound (cond b (p ∷ from_id a places) (from_id a places))) [
      | true ↦ (below, rest)
      | false ↦ fall_within p.1 bound (from_id a places) (omega (arith, below)) rest
    ]

from_id-few : (a x : ℕ) (places : List Place)
    → copies (ids (from_id a places)) x ≤ copies (ids places) x
from_id-few a x [] = omega arith
from_id-few a x (p ∷ places) =
    let rest = from_id-few a x places in
    elim (nat_le a p.0) as (λ b.
    copies (ids (cond b (p ∷ from_id a places) (from_id a places))) x ≤ one_if
    (p.0 == x) + copies (ids places) x) [
      | true ↦ omega (arith, rest)
      | false ↦ omega (arith, rest)
    ]

from_id-stamp : (a : ℕ) (places : List Place) → stamp_of (from_id a places) a ≡ stamp_of places a
from_id-stamp a [] = refl
from_id-stamp a (p ∷ places) =
    let rest = from_id-stamp a places in
    let here : List Place = from_id a places in
    elim (cases_lt p.0 a) [
      | inl below ↦
          ap (λ b. stamp_of (cond b (p ∷ here) here) a) (is_above a p.0 below) ∙ rest
          ∙ ap (λ b. cond b (Some p.1) (stamp_of places a))
          (sym (ne_eqb p.0 a (λ e. omega (arith, e, below))))
      | inr not_below ↦
          ap (λ b. stamp_of (cond b (p ∷ here) here) a) (is_within a p.0 (omega (arith, not_below)))
          ∙ ap (cond (p.0 == a) (Some p.1)) rest
    ]

-- ---- the places of the facts

-- what is told of an id has the stamp of its place
abbrev pub IsStamped : (ℕ → Option Fact) → (Fact → ℕ) → List Place → Type 0
IsStamped told at places = (id : ℕ) (fact : Fact) → told id ≡ Some fact
    → stamp_of places id ≡ Some (at fact)

-- an id of which nothing is told has no place
abbrev pub LacksUntold : (ℕ → Option Fact) → List Place → Type 0
LacksUntold told places = (id : ℕ) → told id ≡ None → has (ids places) id ≡ false

module _ (told : ℕ → Option Fact) (at : Fact → ℕ) (bound : ℕ) (places : List Place)
    (named : IsNamed told) (stamped : IsStamped told at places) (lacks : LacksUntold told places)
    (fall : FallBelow bound places) (few : (id : ℕ) → copies (ids places) id ≤ 1) where
  abbrev place_of : Fact → Place
  place_of fact = (fact.id, at fact)

  fallen_from : (a n : ℕ) → ((id : ℕ) → has (ids places) id ≡ true → id < a + n)
      → by_falling (map place_of (filter_map told (range_with_len a n))) ≡ from_id a places
  fallen_from a zero below = sym (from_id-none a places (λ id here. omega (arith, below id here)))
  fallen_from a (suc n) below =
      let rest = fallen_from (a + 1) n (λ id here. let h = below id here in omega (arith, h)) in
      let less = rest ∙ from_id-later a places in
      let facts : List Fact = filter_map told (range_with_len (a + 1) n) in
      elim (told a) as (λ o. told a ≡ o
      → by_falling (map place_of (cons_option o facts)) ≡ from_id a places) [
        | None ↦ λ e.
            let none = lacks-none (ids places) a (lacks a e) in
            let fewer = from_id-few a a places in
            less ∙ unplaced-same (from_id a places) a
            (has-none (ids (from_id a places)) a (omega (arith, none, fewer)))
        | Some fact ↦ λ e.
            let fewer = from_id-few a a places in
            let once = few a in
            ap (λ l. placed l fact.id (at fact)) less
            ∙ ap (λ id. placed (unplaced (from_id a places) a) id (at fact)) (named a fact e)
            ∙ by_stamp-back bound (from_id a places) a (at fact) (from_id-fall a bound places fall)
            (omega (arith, fewer, once))
            (from_id-stamp a places ∙ stamped a fact e)
      ] refl

  pub fallen : (used : ℕ) → ((id : ℕ) → has (ids places) id ≡ true → id < used)
      → places ≡ by_falling
      (map (λ fact. (fact.id, at fact)) (filter_map told (range_with_len 0 used)))
  fallen used below =
      sym (fallen_from 0 used (λ id here. let h = below id here in omega (arith, h))
      ∙ from_id-all places)
