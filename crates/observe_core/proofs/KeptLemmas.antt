-- The facts that a half keeps of moved items.
use Rattle.std.proofs.Common.{◌≡◌, ◌≢◌, ℕ, zero, suc, nat_le, true, false, ◌&&◌, ◌==◌}
use Rattle.std.proofs.Common.{if◌then◌else◌, IsTrue, List, [], ◌∷◌, refl, sym, ap, subst, ◌∙◌}
use Rattle.std.proofs.Common.{arith, Contains}
use Rattle.std.proofs.lemmas.Grind.{common_steps}
use Rattle.base_items.specs.declared.items.Fact.{Fact}
use Rattle.plain_digraph.specs.Rising.{with_item, without_item, swapped}
use Rattle.plain_digraph.specs.Lists.{AllOf}
use Rattle.observe_core.specs.Items.{Lacks, HoldsOnly, has_id, rises_from, number_id}
use Rattle.plain_digraph.specs.Facts.{fact_id}
use Rattle.observe_core.specs.Facts.{same_fact, has_fact}
use Rattle.observe_core.specs.Told.{kept_moved}
use Rattle.observe_core.specs.Fits.{IsKept}
use Rattle.observe_core.proofs.ItemLemmas.{and_left, and_right, has-place, lacks-not_has}
use Rattle.observe_core.proofs.ItemLemmas.{not_has-lacks, lacks-without, without-place}
use Rattle.observe_core.proofs.ItemLemmas.{place-without, holds_only, contains-has, has-swapped}
use Rattle.observe_core.proofs.ItemLemmas.{apart, all_more, all_at, all-place, all-without}

is_number : (m n : ℕ) → IsTrue (m == n) → m ≡ n
is_number m n h = grind (arith, common_steps, h)

pub same-is : (f g : Fact) → IsTrue (same_fact f g) → f ≡ g
same-is f g h =
    let two = (f.from_at == g.from_at) && (f.to_at == g.to_at) in
    let three = (f.to == g.to) && two in
    let four = (f.from == g.from) && three in
    let a = and_left (f.id == g.id) four h in
    let h4 = and_right (f.id == g.id) four h in
    let b = and_left (f.from == g.from) three h4 in
    let h3 = and_right (f.from == g.from) three h4 in
    let c = and_left (f.to == g.to) two h3 in
    let h2 = and_right (f.to == g.to) two h3 in
    let d = and_left (f.from_at == g.from_at) (f.to_at == g.to_at) h2 in
    let e = and_right (f.from_at == g.from_at) (f.to_at == g.to_at) h2 in
    let p = is_number f.id g.id a in
    let q = is_number f.from g.from b in
    let r = is_number f.to g.to c in
    let s = is_number f.from_at g.from_at d in
    let t = is_number f.to_at g.to_at e in
    λ i. record { id = p i; from = q i; to = r i; from_at = s i; to_at = t i }

pub same-self : (f : Fact) → IsTrue (same_fact f f)
same-self f = grind (arith, common_steps)

pub has_fact-contains : (f : Fact) (gs : List Fact) → IsTrue (has_fact f gs) → Contains gs f
has_fact-contains f [] h = cc
has_fact-contains f (g ∷ gs) h =
    elim (same_fact f g) as (λ b. same_fact f g ≡ b → IsTrue (if b then true else has_fact f gs)
    → Contains (g ∷ gs) f) [
      | true ↦ λ t u. (0, omega arith, sym (same-is f g t))
      | false ↦ λ t u. let c = has_fact-contains f gs u in (suc c.0, omega (arith, c.1), c.2)
    ] refl h

pub contains-has_fact : (f : Fact) (gs : List Fact) → Contains gs f → IsTrue (has_fact f gs)
contains-has_fact f [] c = absurd (omega (arith, c.1))
contains-has_fact f (g ∷ gs) (zero, l, c) =
    let e : g ≡ f = c in
    subst (λ z. IsTrue (if same_fact f z then true else has_fact f gs)) (sym e)
    (subst (λ b. IsTrue (if b then true else has_fact f gs)) (sym (same-self f)) refl)
contains-has_fact f (g ∷ gs) (suc k, l, c) =
    let r = contains-has_fact f gs (k, omega (arith, l), c) in grind (arith, common_steps, r)

pub lacks-has_fact : (f : Fact) (gs : List Fact) → AllOf (λ g. f ≢ g) gs → has_fact f gs ≡ false
lacks-has_fact f [] h = refl
lacks-has_fact f (g ∷ gs) h =
    elim (same_fact f g) as (λ b. same_fact f g ≡ b → (if b then true else has_fact f gs) ≡ false) [
      | true ↦ λ t. absurd (h.0 (same-is f g t))
      | false ↦ λ t. lacks-has_fact f gs h.1
    ] refl

pub not_has_fact : (f : Fact) (gs : List Fact) → has_fact f gs ≡ false → AllOf (λ g. f ≢ g) gs
not_has_fact f [] h = tt
not_has_fact f (g ∷ gs) h =
    elim (same_fact f g) as (λ b. same_fact f g ≡ b → (if b then true else has_fact f gs) ≡ false
    → AllOf (λ g. f ≢ g) (g ∷ gs)) [
      | true ↦ λ t u. cc
      | false ↦ λ t u. (
        (λ e. let s =
            subst (λ z. IsTrue (same_fact f z)) e (same-self f) in grind (arith, common_steps, s, t)),
        not_has_fact f gs u,
      )
    ] refl h

-- kept_moved, with the item's id by itself
abbrev step : ℕ → Fact → Fact → List Fact → List Fact
step i old now kept =
    if has_id fact_id i kept then (if has_fact now kept then without_item fact_id i kept else kept)
    else with_item fact_id old kept

step_new : (i : ℕ) (old now : Fact) (kept : List Fact) → has_id fact_id i kept ≡ false
    → step i old now kept ≡ with_item fact_id old kept
step_new i old now kept h =
    ap (λ b. if b then (if has_fact now kept then without_item fact_id i kept else kept) else
    with_item fact_id old kept) h

step_gone : (i : ℕ) (old now : Fact) (kept : List Fact) → has_id fact_id i kept ≡ true
    → has_fact now kept ≡ true → step i old now kept ≡ without_item fact_id i kept
step_gone i old now kept h g =
    ap (λ b. if b then (if has_fact now kept then without_item fact_id i kept else kept) else
    with_item fact_id old kept) h ∙ ap (λ b. if b then without_item fact_id i kept else kept) g

step_same : (i : ℕ) (old now : Fact) (kept : List Fact) → has_id fact_id i kept ≡ true
    → has_fact now kept ≡ false → step i old now kept ≡ kept
step_same i old now kept h g =
    ap (λ b. if b then (if has_fact now kept then without_item fact_id i kept else kept) else
    with_item fact_id old kept) h ∙ ap (λ b. if b then without_item fact_id i kept else kept) g

has_fact-place : (f : Fact) (gs : List Fact) → IsTrue (has_fact f (with_item fact_id f gs))
has_fact-place f [] = grind (arith, common_steps, same-self f)
has_fact-place f (g ∷ gs) =
    let r = has_fact-place f gs in
    let s = same-self f in
    elim (nat_le f.id g.id) as (λ b.
    IsTrue (has_fact f (if b then f ∷ g ∷ gs else g ∷ with_item fact_id f gs))) [
      | true ↦ grind (arith, common_steps, s)
      | false ↦ grind (arith, common_steps, r)
    ]

module _ (i : ℕ) (old now : Fact) (kept : List Fact) (o : old.id ≡ i) (n : now.id ≡ i)
    (rising : IsTrue (rises_from fact_id 0 kept)) where
  back : AllOf (λ k. old ≢ k) kept → step i now old (step i old now kept) ≡ kept
  back lacks =
      elim (has_id fact_id i kept) as (λ b. has_id fact_id i kept ≡ b
      → step i now old
      (if b then (if has_fact now kept then without_item fact_id i kept else kept) else
      with_item fact_id old kept) ≡ kept) [
        | true ↦ λ t.
            elim (has_fact now kept) as (λ c. has_fact now kept ≡ c
            → step i now old (if c then without_item fact_id i kept else kept) ≡ kept) [
              | true ↦ λ u.
                  let only = holds_only fact_id 0 now kept rising (has_fact-contains now kept u) in
                  let e = step_new i now old (without_item fact_id i kept)
                  (lacks-not_has fact_id i (without_item fact_id i kept)
                  (lacks-without fact_id i kept)) in
                  e ∙ ap (λ j. with_item fact_id now (without_item fact_id j kept)) (sym n)
                  ∙ place-without fact_id 0 now kept rising only
                  (subst (λ j. IsTrue (has_id fact_id j kept)) (sym n) t)
              | false ↦ λ u. step_same i now old kept t (lacks-has_fact old kept lacks)
            ] refl
        | false ↦ λ t.
            let h : has_id fact_id i (with_item fact_id old kept) ≡ true =
            has-place fact_id i old kept
            ∙ ap (λ b. if b then true else has_id fact_id i kept) (is_id o) in
            let e = step_gone i now old (with_item fact_id old kept) h (has_fact-place old kept) in
            let l : Lacks fact_id old.id kept =
            subst (λ j. Lacks fact_id j kept) (sym o) (not_has-lacks fact_id i kept t) in
            e ∙ ap (λ j. without_item fact_id j (with_item fact_id old kept)) (sym o)
            ∙ without-place fact_id old kept l
      ] refl
    where
      is_id : old.id ≡ i → (old.id == i) ≡ true
      is_id e = grind (arith, common_steps, e)

-- a move of a half's item is undone by the move that leads back
pub kept-back : (old now : Fact) (kept : List Fact) → now.id ≡ old.id
    → IsTrue (rises_from fact_id 0 kept) → AllOf (λ k. old ≢ k) kept
    → kept_moved now old (kept_moved old now kept) ≡ kept
kept-back old now kept e rising lacks =
    ap (λ i. step i now old (step old.id old now kept)) e
    ∙ back old.id old now kept refl e rising lacks

-- the kept facts are other ones than the present
pub kept-older : (added : List ℕ) (live kept : List Fact) (old : Fact) → Contains live old
    → AllOf (IsKept added live) kept → AllOf (λ k. old ≢ k) kept
kept-older added live kept old c h = all_more (λ k w. all_at (λ g. g ≢ k) old live w.moved c) kept h

others_apart : (i : ℕ) (now : Fact) (gs : List Fact) → Lacks fact_id i gs → now.id ≡ i
    → AllOf (λ g. g ≢ now) gs
others_apart i now [] h e = tt
others_apart i now (g ∷ gs) h e = ((λ m. h.0 (ap fact_id m ∙ e)), others_apart i now gs h.1 e)

-- after the exchange the old fact is gone
gone : (old now : Fact) (live : List Fact) → now.id ≡ old.id → now ≢ old
    → HoldsOnly fact_id old live → AllOf (λ g. g ≢ old) (swapped fact_id now live)
gone old now [] e d h = tt
gone old now (g ∷ gs) e d h =
    elim (g.id == now.id) as (λ b. (g.id == now.id) ≡ b
    → AllOf (λ g. g ≢ old) ((if b then now else g) ∷ swapped fact_id now gs)) [
      | true ↦ λ t. (d, gone old now gs e d h.1)
      | false ↦ λ t. (
        (λ m. let x = ap fact_id m in grind (arith, common_steps, t, x, e)),
        gone old now gs e d h.1,
      )
    ] refl

swapped_apart : (now k : Fact) (live : List Fact) → now ≢ k → AllOf (λ g. g ≢ k) live
    → AllOf (λ g. g ≢ k) (swapped fact_id now live)
swapped_apart now k [] d h = tt
swapped_apart now k (g ∷ gs) d h =
    elim (g.id == now.id) as (λ b.
    AllOf (λ g. g ≢ k) ((if b then now else g) ∷ swapped fact_id now gs)) [
      | true ↦ (d, swapped_apart now k gs d h.1)
      | false ↦ (h.0, swapped_apart now k gs d h.1)
    ]

still_kept : (added : List ℕ) (live kept : List Fact) (now : Fact) → AllOf (λ k. now ≢ k) kept
    → AllOf (IsKept added live) kept → AllOf (IsKept added (swapped fact_id now live)) kept
still_kept added live [] now d h = tt
still_kept added live (k ∷ ks) now d h = (
  record {
    live_id = subst IsTrue (sym (has-swapped fact_id k.id now live)) h.0.live_id;
    older =
        h.0.older;
    moved = swapped_apart now k live d.0 h.0.moved;
  },
  still_kept added live ks now d.1 h.1,
)

id_apart : (now : Fact) (kept : List Fact) → Lacks fact_id now.id kept → AllOf (λ k. now ≢ k) kept
id_apart now [] h = tt
id_apart now (k ∷ ks) h = ((λ e. h.0 (ap fact_id (sym e))), id_apart now ks h.1)

added_apart : (added : List ℕ) (live kept : List Fact) (i : ℕ) → IsTrue (has_id number_id i added)
    → AllOf (IsKept added live) kept → Lacks fact_id i kept
added_apart added live [] i t h = tt
added_apart added live (k ∷ ks) i t h =
    ((λ e. apart number_id k.id i added h.0.older t (sym e)), added_apart added live ks i t h.1)

module _ (added : List ℕ) (live kept : List Fact) (old now : Fact) (e : now.id ≡ old.id)
    (d : now ≢ old) (rising : IsTrue (rises_from fact_id 0 live)) (there : Contains live old) where
  moved_on : has_id number_id old.id added ≡ false → AllOf (IsKept added live) kept
      → AllOf (IsKept added (swapped fact_id now live)) (kept_moved old now kept)
  moved_on a h =
      elim (has_id fact_id old.id kept) as (λ b. has_id fact_id old.id kept ≡ b
      → AllOf (IsKept added (swapped fact_id now live))
      (if b then (if has_fact now kept then without_item fact_id old.id kept else kept) else
      with_item fact_id old kept)) [
        | true ↦ λ t.
            elim (has_fact now kept) as (λ c. has_fact now kept ≡ c
            → AllOf (IsKept added (swapped fact_id now live))
            (if c then without_item fact_id old.id kept else kept)) [
              | true ↦ λ u.
                  let w = all_more (λ k w. w.1) (without_item fact_id old.id kept)
                  (all-without (IsKept added live) fact_id old.id kept h) in
                  still_kept added live (without_item fact_id old.id kept) now
                  (id_apart now (without_item fact_id old.id kept)
                  (subst (λ j. Lacks fact_id j (without_item fact_id old.id kept)) (sym e)
                  (lacks-without fact_id old.id kept))) w
              | false ↦ λ u. still_kept added live kept now (not_has_fact now kept u) h
            ] refl
        | false ↦ λ t.
            let l : Lacks fact_id now.id kept =
            subst (λ j. Lacks fact_id j kept) (sym e) (not_has-lacks fact_id old.id kept t) in
            let k : IsKept added (swapped fact_id now live) old = record {
              live_id = subst IsTrue (sym (has-swapped fact_id old.id now live))
                  (contains-has fact_id old live there);
              older = not_has-lacks number_id old.id added a;
              moved = gone old now live e d (holds_only fact_id 0 old live rising there);
            } in
            all-place (IsKept added (swapped fact_id now live)) fact_id old kept k
            (still_kept added live kept now (id_apart now kept l) h)
      ] refl

  -- what a half keeps goes on to be what it was to keep
  pub kept-on : AllOf (IsKept added live) kept
      → AllOf (IsKept added (swapped fact_id now live))
      (if has_id number_id old.id added then kept else kept_moved old now kept)
  kept-on h =
      elim (has_id number_id old.id added) as (λ b. has_id number_id old.id added ≡ b
      → AllOf (IsKept added (swapped fact_id now live))
      (if b then kept else kept_moved old now kept)) [
        | true ↦ λ a.
            still_kept added live kept now
            (id_apart now kept
            (subst (λ j. Lacks fact_id j kept) (sym e) (added_apart added live kept old.id a h))) h
        | false ↦ λ a. moved_on a h
      ] refl
