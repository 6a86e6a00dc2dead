-- What a half saves stays.
use Rattle.std.proofs.Common.{◌≡◌, ◌≢◌, ℕ, ◌+◌, ◌-◌, ◌<◌, ◌≤◌, nat_le, true, false, ◌==◌}
use Rattle.std.proofs.Common.{if◌then◌else◌, IsTrue, List, [], ◌∷◌, length, refl, sym, ap, subst}
use Rattle.std.proofs.Common.{◌∙◌, arith, Contains}
use Rattle.std.proofs.lemmas.Grind.{common_steps}
use Rattle.base_items.specs.declared.items.Fact.{Fact}
use Rattle.plain_digraph.specs.Rising.{with_item, without_item, swapped}
use Rattle.plain_digraph.specs.Lists.{AllOf}
use Rattle.observe_core.specs.Items.{Lacks, HoldsOnly, has_id, rises_from, number_id}
use Rattle.plain_digraph.specs.Facts.{fact_id}
use Rattle.observe_core.specs.Facts.{has_fact, IsLive}
use Rattle.observe_core.specs.Held.{Held, Nothing, Values, Degree, Half, Kept, Ties, IsHeldSound}
use Rattle.observe_core.specs.Seen.{Seen, IsSound}
use Rattle.observe_core.specs.Told.{added, held_added, shifted, held_shifted, kept_moved, erased}
use Rattle.observe_core.specs.Told.{held_erased, cleared, held_cleared}
use Rattle.observe_core.specs.Fits.{Fits, HeldFits}
use Rattle.observe_core.specs.Saved.{was_of, saved, saved_of, is_valid}
use Rattle.observe_core.proofs.ItemLemmas.{has-place, has-without, all-without, all_more}
use Rattle.observe_core.proofs.ItemLemmas.{holds_only, has_from, and_left, and_right, not_has-lacks}
use Rattle.observe_core.proofs.ItemLemmas.{lacks-without}
use Rattle.observe_core.proofs.CountLemmas.{among-fewer}
use Rattle.observe_core.proofs.KeptLemmas.{has_fact-contains}

-- two halves that agree on each live item save the same
agree : (a b : List ℕ) (k l : List Fact) (live : List Fact)
    → AllOf (λ g. (has_id number_id g.id a ≡ has_id number_id g.id b) × (was_of k g ≡ was_of l g))
    live → saved a k live ≡ saved b l live
agree a b k l [] h = refl
agree a b k l (g ∷ gs) h =
    let r = agree a b k l gs h.1 in
    ap (λ t. if t then saved a k gs else was_of k g ∷ saved a k gs) h.0.0
    ∙ elim (has_id number_id g.id b) as (λ t.
    (if t then saved a k gs else was_of k g ∷ saved a k gs)
    ≡ (if t then saved b l gs else was_of l g ∷ saved b l gs)) [
      | true ↦ r
      | false ↦ (λ i. h.0.1 i ∷ r i)
    ]

skip-place : (a : List ℕ) (k : List Fact) (f : Fact) (live : List Fact)
    → has_id number_id f.id a ≡ true → saved a k (with_item fact_id f live) ≡ saved a k live
skip-place a k f [] h = ap (λ t. if t then [] else was_of k f ∷ []) h
skip-place a k f (g ∷ gs) h =
    let r = skip-place a k f gs h in
    elim (nat_le f.id g.id) as (λ b.
    saved a k (if b then f ∷ g ∷ gs else g ∷ with_item fact_id f gs) ≡ saved a k (g ∷ gs)) [
      | true ↦ ap (λ t. if t then saved a k (g ∷ gs) else was_of k f ∷ saved a k (g ∷ gs)) h
      | false ↦ elim (has_id number_id g.id a) as (λ t.
          (if t then saved a k (with_item fact_id f gs) else was_of k g ∷ saved a k
          (with_item fact_id f gs)) ≡ (if t then saved a k gs else was_of k g ∷ saved a k gs)) [
            | true ↦ r
            | false ↦ ap (λ l. was_of k g ∷ l) r
          ]
    ]

skip-without : (a : List ℕ) (k : List Fact) (i : ℕ) (live : List Fact) → has_id number_id i a ≡ true
    → saved a k (without_item fact_id i live) ≡ saved a k live
skip-without a k i [] h = refl
skip-without a k i (g ∷ gs) h =
    let r = skip-without a k i gs h in
    elim (g.id == i) as (λ b. (g.id == i) ≡ b
    → saved a k (if b then without_item fact_id i gs else g ∷ without_item fact_id i gs)
    ≡ saved a k (g ∷ gs)) [
      | true ↦ λ q.
          let e : g.id ≡ i = grind (arith, common_steps, q) in
          let t : has_id number_id g.id a ≡ true = ap (λ j. has_id number_id j a) e ∙ h in
          r ∙ sym (ap (λ t. if t then saved a k gs else was_of k g ∷ saved a k gs) t)
      | false ↦ λ q.
          elim (has_id number_id g.id a) as (λ t.
          (if t then saved a k (without_item fact_id i gs) else was_of k g ∷ saved a k
          (without_item fact_id i gs)) ≡ (if t then saved a k gs else was_of k g ∷ saved a k gs)) [
            | true ↦ r
            | false ↦ ap (λ l. was_of k g ∷ l) r
          ]
    ] refl

others_agree : (i : ℕ) (a : List ℕ) (k : List Fact) (live : List Fact) → Lacks fact_id i live
    → AllOf (λ g. (has_id number_id g.id (with_item number_id i a) ≡ has_id number_id g.id a)
    × (was_of k g ≡ was_of k g)) live
others_agree i a k [] h = tt
others_agree i a k (g ∷ gs) h =
    let n = h.0 in
    let q : (i == g.id) ≡ false = grind (arith, common_steps, n) in (
      (has-place number_id g.id i a ∙ ap (λ b. if b then true else has_id number_id g.id a) q, refl),
      others_agree i a k gs h.1,
    )

itself : (n : ℕ) → (n == n) ≡ true
itself n = grind (arith, common_steps)

pub added-saves : (f : Fact) (s : Seen) (live : List Fact) → Lacks fact_id f.id live
    → saved_of (added f s).held (with_item fact_id f live) ≡ saved_of s.held live
added-saves f s live l = of s.held
  where
    of : (held : Held)
        → saved_of (held_added f held) (with_item fact_id f live) ≡ saved_of held live
    of Nothing = refl
    of (Values t es) = refl
    of (Degree out ends) = refl
    of (Half a others k valid) =
        let h : has_id number_id f.id (with_item number_id f.id a) ≡ true =
        has-place number_id f.id f.id a
        ∙ ap (λ b. if b then true else has_id number_id f.id a) (itself f.id) in
        skip-place (with_item number_id f.id a) k f live h
        ∙ agree (with_item number_id f.id a) a k k live (others_agree f.id a k live l)
    of (Kept role all items) = refl
    of (Ties ties) = refl

was-without : (i : ℕ) (k : List Fact) (g : Fact) → g.id ≢ i
    → was_of (without_item fact_id i k) g ≡ was_of k g
was-without i [] g n = refl
was-without i (x ∷ xs) g n =
    let r = was-without i xs g n in
    elim (x.id == i) as (λ b. (x.id == i) ≡ b
    → was_of (if b then without_item fact_id i xs else x ∷ without_item fact_id i xs) g
    ≡ was_of (x ∷ xs) g) [
      | true ↦ λ q.
          let o : (x.id == g.id) ≡ false = grind (arith, common_steps, q, n) in
          r ∙ sym (ap (λ b. if b then x else was_of xs g) o)
      | false ↦ λ q.
          elim (x.id == g.id) as (λ b. (if b then x else was_of (without_item fact_id i xs) g)
          ≡ (if b then x else was_of xs g)) [ true ↦ refl | false ↦ r ]
    ] refl

was-place : (f : Fact) (k : List Fact) (g : Fact) → g.id ≢ f.id
    → was_of (with_item fact_id f k) g ≡ was_of k g
was-place f [] g n = let o : (f.id == g.id) ≡ false =
    grind (arith, common_steps, n) in ap (λ b. if b then f else g) o
was-place f (x ∷ xs) g n =
    let r = was-place f xs g n in
    let o : (f.id == g.id) ≡ false = grind (arith, common_steps, n) in
    elim (nat_le f.id x.id) as (λ b. was_of (if b then f ∷ x ∷ xs else x ∷ with_item fact_id f xs) g
    ≡ was_of (x ∷ xs) g) [
      | true ↦ ap (λ b. if b then f else was_of (x ∷ xs) g) o
      | false ↦ elim (x.id == g.id) as (λ b. (if b then x else was_of (with_item fact_id f xs) g)
          ≡ (if b then x else was_of xs g)) [ true ↦ refl | false ↦ r ]
    ]

was-none : (k : List Fact) (g : Fact) → Lacks fact_id g.id k → was_of k g ≡ g
was-none [] g h = refl
was-none (x ∷ xs) g h =
    let n = h.0 in
    let o : (x.id == g.id) ≡ false = grind (arith, common_steps, n) in
    ap (λ b. if b then x else was_of xs g) o ∙ was-none xs g h.1

was-placed : (f : Fact) (k : List Fact) (g : Fact) → g.id ≡ f.id → Lacks fact_id f.id k
    → was_of (with_item fact_id f k) g ≡ f
was-placed f [] g e l = let o : (f.id == g.id) ≡ true =
    grind (arith, common_steps, e) in ap (λ b. if b then f else g) o
was-placed f (x ∷ xs) g e l =
    let r = was-placed f xs g e l.1 in
    let n = l.0 in
    let o : (f.id == g.id) ≡ true = grind (arith, common_steps, e) in
    let p : (x.id == g.id) ≡ false = grind (arith, common_steps, e, n) in
    elim (nat_le f.id x.id) as (λ b. was_of (if b then f ∷ x ∷ xs else x ∷ with_item fact_id f xs) g
    ≡ f) [
      | true ↦ ap (λ b. if b then f else was_of (x ∷ xs) g) o
      | false ↦ ap (λ b. if b then x else was_of (with_item fact_id f xs) g) p ∙ r
    ]

-- what was kept goes by the id alone
was-same : (k : List Fact) (g h : Fact) → g.id ≡ h.id → IsTrue (has_id fact_id h.id k)
    → was_of k g ≡ was_of k h
was-same [] g h e t = cc
was-same (x ∷ xs) g h e t =
    elim (x.id == h.id) as (λ b. (x.id == h.id) ≡ b
    → IsTrue (if b then true else has_id fact_id h.id xs)
    → was_of (x ∷ xs) g ≡ (if b then x else was_of xs h)) [
      | true ↦ λ q u. let o : (x.id == g.id) ≡ true =
          grind (arith, common_steps, q, e) in ap (λ b. if b then x else was_of xs g) o
      | false ↦ λ q u. let o : (x.id == g.id) ≡ false =
          grind (arith, common_steps, q, e) in ap (λ b. if b then x else was_of xs g) o
          ∙ was-same xs g h e u
    ] refl t

was-only : (k : List Fact) (f g : Fact) → g.id ≡ f.id → HoldsOnly fact_id f k
    → IsTrue (has_id fact_id f.id k) → was_of k g ≡ f
was-only [] f g e h t = cc
was-only (x ∷ xs) f g e h t =
    elim (x.id == f.id) as (λ b. (x.id == f.id) ≡ b
    → IsTrue (if b then true else has_id fact_id f.id xs) → was_of (x ∷ xs) g ≡ f) [
      | true ↦ λ q u.
          let o : (x.id == g.id) ≡ true = grind (arith, common_steps, q, e) in
          ap (λ b. if b then x else was_of xs g) o ∙ h.0 (grind (arith, common_steps, q))
      | false ↦ λ q u.
          let o : (x.id == g.id) ≡ false = grind (arith, common_steps, q, e) in
          ap (λ b. if b then x else was_of xs g) o ∙ was-only xs f g e h.1 u
    ] refl t

module _ (old now : Fact) (k : List Fact) (e : now.id ≡ old.id)
    (rising : IsTrue (rises_from fact_id 0 k)) where
  kept-same : was_of (kept_moved old now k) now ≡ was_of k old
  kept-same =
      elim (has_id fact_id old.id k) as (λ b. has_id fact_id old.id k ≡ b
      → was_of (if b then (if has_fact now k then without_item fact_id old.id k else k) else
      with_item fact_id old k) now ≡ was_of k old) [
        | true ↦ λ t.
            elim (has_fact now k) as (λ c. has_fact now k ≡ c
            → was_of (if c then without_item fact_id old.id k else k) now ≡ was_of k old) [
              | true ↦ λ u.
                  let only = holds_only fact_id 0 now k rising (has_fact-contains now k u) in
                  was-none (without_item fact_id old.id k) now
                  (subst (λ j. Lacks fact_id j (without_item fact_id old.id k)) (sym e)
                  (lacks-without fact_id old.id k))
                  ∙ sym (was-only k now old (sym e) only
                  (subst (λ j. IsTrue (has_id fact_id j k)) (sym e) t))
              | false ↦ λ u. was-same k now old e t
            ] refl
        | false ↦ λ t.
            let l = not_has-lacks fact_id old.id k t in
            was-placed old k now e l ∙ sym (was-none k old l)
      ] refl

  kept-others : (g : Fact) → g.id ≢ old.id → was_of (kept_moved old now k) g ≡ was_of k g
  kept-others g n =
      elim (has_id fact_id old.id k) as (λ b.
      was_of (if b then (if has_fact now k then without_item fact_id old.id k else k) else
      with_item fact_id old k) g ≡ was_of k g) [
        | true ↦ elim (has_fact now k) as (λ c.
            was_of (if c then without_item fact_id old.id k else k) g ≡ was_of k g) [
              | true ↦
                  was-without old.id k g n
              | false ↦ refl
            ]
        | false ↦ was-place old k g n
      ]

  -- an item that isn't added is saved as before
  moved-on : (a : List ℕ) (live : List Fact) → HoldsOnly fact_id old live
      → saved a (kept_moved old now k) (swapped fact_id now live) ≡ saved a k live
  moved-on a [] h = refl
  moved-on a (g ∷ gs) h =
      let r = moved-on a gs h.1 in
      elim (g.id == now.id) as (λ b. (g.id == now.id) ≡ b
      → saved a (kept_moved old now k) ((if b then now else g) ∷ swapped fact_id now gs)
      ≡ saved a k (g ∷ gs)) [
        | true ↦ λ q.
            let m : g ≡ old = h.0 (grind (arith, common_steps, q, e)) in
            let w : was_of (kept_moved old now k) now ≡ was_of k g = kept-same
            ∙ ap (was_of k) (sym m) in
            let i : has_id number_id now.id a ≡ has_id number_id g.id a =
            ap (λ j. has_id number_id j a) (e ∙ ap fact_id (sym m)) in
            ap (λ t. if t then saved a (kept_moved old now k) (swapped fact_id now gs) else was_of
            (kept_moved old now k) now ∷ saved a (kept_moved old now k)
            (swapped fact_id now gs)) i
            ∙ elim (has_id number_id g.id a) as (λ t.
            (if t then saved a (kept_moved old now k) (swapped fact_id now gs) else was_of
            (kept_moved old now k) now ∷ saved a (kept_moved old now k) (swapped fact_id now gs))
            ≡ (if t then saved a k gs else was_of k g ∷ saved a k gs)) [
              | true ↦ r
              | false ↦
                  (λ j. w j ∷ r j)
            ]
        | false ↦ λ q.
            let w = kept-others g (λ m. grind (arith, common_steps, q, e, m)) in
            elim (has_id number_id g.id a) as (λ t.
            (if t then saved a (kept_moved old now k) (swapped fact_id now gs) else was_of
            (kept_moved old now k) g ∷ saved a (kept_moved old now k) (swapped fact_id now gs))
            ≡ (if t then saved a k gs else was_of k g ∷ saved a k gs)) [
              | true ↦ r
              | false ↦
                  (λ j. w j ∷ r j)
            ]
      ] refl

  -- and an added one isn't saved at all
  new-on : (a : List ℕ) (live : List Fact) → has_id number_id old.id a ≡ true
      → saved a k (swapped fact_id now live) ≡ saved a k live
  new-on a [] h = refl
  new-on a (g ∷ gs) h =
      let r = new-on a gs h in
      elim (g.id == now.id) as (λ b. (g.id == now.id) ≡ b
      → saved a k ((if b then now else g) ∷ swapped fact_id now gs) ≡ saved a k (g ∷ gs)) [
        | true ↦ λ q.
            let x : has_id number_id now.id a ≡ true = ap (λ j. has_id number_id j a) e ∙ h in
            let m : g.id ≡ now.id = grind (arith, common_steps, q) in
            let y : has_id number_id g.id a ≡ true = ap (λ j. has_id number_id j a) m ∙ x in
            ap (λ t. if t then saved a k (swapped fact_id now gs) else was_of k now ∷ saved a k
            (swapped fact_id now gs)) x ∙ r
            ∙ sym (ap (λ t. if t then saved a k gs else was_of k g ∷ saved a k gs) y)
        | false ↦ λ q.
            elim (has_id number_id g.id a) as (λ t.
            (if t then saved a k (swapped fact_id now gs) else was_of k g ∷ saved a k
            (swapped fact_id now gs)) ≡ (if t then saved a k gs else was_of k g ∷ saved a k gs))
            [ true ↦ r | false ↦ ap (λ l. was_of k g ∷ l) r ]
      ] refl

pub shifted-saves : (old now : Fact) (s : Seen) (live : List Fact) → IsLive live → IsSound s
    → Contains live old → now.id ≡ old.id
    → saved_of (shifted old now s).held (swapped fact_id now live) ≡ saved_of s.held live
shifted-saves old now s live l sound c e = of s.held sound.held
  where
    of : (held : Held) → IsHeldSound held
        → saved_of (held_shifted old now held) (swapped fact_id now live) ≡ saved_of held live
    of Nothing h = refl
    of (Values t es) h = refl
    of (Degree out ends) h = refl
    of (Half a others k valid) h =
        elim (has_id number_id old.id a) as (λ b. has_id number_id old.id a ≡ b
        → saved a (if b then k else kept_moved old now k) (swapped fact_id now live)
        ≡ saved a k live) [
          | true ↦ λ t. new-on old now k e h.1 a live t
          | false ↦ λ t. moved-on old now k e h.1 a live (holds_only fact_id 0 old live l.rising c)
        ] refl
    of (Kept role all items) h = refl
    of (Ties ties) h = refl

pub erased-saves : (f : Fact) (s : Seen) (live : List Fact) → IsTrue (is_valid (erased f s).held)
    → saved_of (erased f s).held (without_item fact_id f.id live) ≡ saved_of s.held live
erased-saves f s live v = of s.held v
  where
    rest_agree : (a : List ℕ) (k gs : List Fact) → AllOf (λ g. (g.id ≢ f.id) × Unit {0}) gs
        → AllOf (λ g.
        (has_id number_id g.id (without_item number_id f.id a) ≡ has_id number_id g.id a)
        × (was_of (without_item fact_id f.id k) g ≡ was_of k g)) gs
    rest_agree a k [] h = tt
    rest_agree a k (g ∷ gs) h = (
      (has-without number_id f.id g.id a h.0.0, was-without f.id k g h.0.0),
      rest_agree a k gs h.1,
    )

    free : (gs : List Fact) → AllOf (λ g. Unit {0}) gs
    free [] = tt
    free (g ∷ gs) = (tt, free gs)

    of : (held : Held) → IsTrue (is_valid (held_erased f held))
        → saved_of (held_erased f held) (without_item fact_id f.id live) ≡ saved_of held live
    of Nothing v = refl
    of (Values t es) v = refl
    of (Degree out ends) v = refl
    of (Half a others k valid) v =
        elim (has_id number_id f.id a) as (λ b. has_id number_id f.id a ≡ b
        → IsTrue (is_valid
        (if b then Half (without_item number_id f.id a) others (without_item fact_id f.id k)
        valid else Half a (others - 1) (without_item fact_id f.id k) false))
        → saved_of (if b then Half (without_item number_id f.id a) others
        (without_item fact_id f.id k) valid else Half a (others - 1)
        (without_item fact_id f.id k) false) (without_item fact_id f.id live) ≡ saved a k live) [
          | true ↦ λ t u.
              agree (without_item number_id f.id a) a (without_item fact_id f.id k) k
              (without_item fact_id f.id live)
              (rest_agree a k (without_item fact_id f.id live)
              (all-without (λ g. Unit {0}) fact_id f.id live (free live)))
              ∙ skip-without a k f.id live t
          | false ↦ λ t u. cc
        ] refl v
    of (Kept role all items) v = refl
    of (Ties ties) v = refl

-- where as many ids as items are among them, each item is among the ids
all_added : (low : ℕ) (ids : List ℕ) (ys : List Fact) → IsTrue (rises_from number_id low ids)
    → IsTrue (rises_from fact_id low ys) → AllOf (λ i. IsTrue (has_id fact_id i ys)) ids
    → length ys ≤ length ids → AllOf (λ y. IsTrue (has_id number_id y.id ids)) ys
all_added low ids [] s t h l = tt
all_added low [] (y ∷ ys) s t h l = absurd (omega (arith, l))
all_added low (i ∷ ids) (y ∷ ys) s t h l =
    let b = and_right (nat_le low y.id) (rises_from fact_id (y.id + 1) ys) t in
    let d = and_right (nat_le low i) (rises_from number_id (i + 1) ids) s in
    elim (y.id == i) as (λ c. (y.id == i) ≡ c
    → AllOf (λ y. IsTrue (has_id number_id y.id (i ∷ ids))) (y ∷ ys)) [
      | true ↦ λ e.
          let m : y.id ≡ i = grind (arith, common_steps, e) in
          let r = all_added (i + 1) ids ys d
          (subst (λ n. IsTrue (rises_from fact_id (n + 1) ys)) m b)
          (behind (i + 1) ids d (omega (arith, m)) h.1) (omega (arith, l)) in
          (grind (arith, common_steps, m), all_more (λ z w. later z w) ys r)
      | false ↦ λ e.
          let k : IsTrue (has_id fact_id i ys) = grind (arith, common_steps, e, h.0) in
          let q : y.id + 1 ≤ i = has_from fact_id (y.id + 1) i ys b k in
          let f = among-fewer fact_id (y.id + 1) (i ∷ ids) ys (grind (arith, common_steps, q, d)) b
          (k, behind (i + 1) ids d (omega (arith, q)) h.1) in
          absurd (omega (arith, f, l))
    ] refl
  where
    later : (z : Fact) → IsTrue (has_id number_id z.id ids)
        → IsTrue (has_id number_id z.id (i ∷ ids))
    later z w = grind (arith, common_steps, w)

    behind : (low : ℕ) (js : List ℕ) → IsTrue (rises_from number_id low js) → y.id < low
        → AllOf (λ j. IsTrue (has_id fact_id j (y ∷ ys))) js
        → AllOf (λ j. IsTrue (has_id fact_id j ys)) js
    behind low [] s l h = tt
    behind low (j ∷ js) s l h =
        let a = and_left (nat_le low j) (rises_from number_id (j + 1) js) s in
        let b = and_right (nat_le low j) (rises_from number_id (j + 1) js) s in
        let t = h.0 in
        let m : y.id < j = grind (arith, common_steps, a, l) in
        (grind (arith, common_steps, t, m), behind (j + 1) js b (omega (arith, m)) h.1)

none_saved : (a : List ℕ) (k live : List Fact) → AllOf (λ g. IsTrue (has_id number_id g.id a)) live
    → [] ≡ saved a k live
none_saved a k [] h = refl
none_saved a k (g ∷ gs) h = none_saved a k gs h.1
    ∙ sym (ap (λ t. if t then saved a k gs else was_of k g ∷ saved a k gs) h.0)

pub cleared-saves : (s : Seen) (live : List Fact) → Fits s live → IsLive live → IsSound s
    → IsTrue (is_valid (cleared s).held) → saved_of (cleared s).held [] ≡ saved_of s.held live
cleared-saves s live fits l sound v = of s.held fits.held sound.held v
  where
    of : (held : Held) → HeldFits held live → IsHeldSound held
        → IsTrue (is_valid (held_cleared held))
        → saved_of (held_cleared held) [] ≡ saved_of held live
    of Nothing h z v = refl
    of (Values t es) h z v = refl
    of (Degree out ends) h z v = refl
    of (Half a others k valid) h z v =
        let q = and_right valid (others == 0) v in
        let o : others ≡ 0 = grind (arith, common_steps, q) in
        let c = h.counted in
        none_saved a k live (all_added 0 a live z.0 l.rising h.among (omega (arith, o, c)))
    of (Kept role all items) h z v = refl
    of (Ties ties) h z v = refl
