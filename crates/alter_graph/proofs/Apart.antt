-- Stamps that belong to one arc each, before and after a step.
use Rattle.std.proofs.Common.{◌≡◌, ◌≢◌, ℕ, ◌+◌, ◌<◌, true, false, ◌==◌, if◌then◌else◌, List, []}
use Rattle.std.proofs.Common.{◌∷◌, ◌⊎◌, inl, inr, refl, sym, ◌∙◌, arith}
use Rattle.base_items.specs.declared.items.Fact.{Fact}
use Rattle.plain_digraph.specs.Facts.{fact_id}
use Rattle.plain_digraph.specs.Lists.{AllOf}
use Rattle.plain_digraph.specs.Rising.{with_item, swapped, without_item}
use Rattle.observe_core.proofs.ItemLemmas.{all_more, all-place, all-without}
use Rattle.alter_graph.specs.Snaps.{Apart, AllApart, IsBelow, OwnStamps}

pub apart_back : (f g : Fact) → Apart f g → Apart g f
apart_back f g h = λ n. let r = h (λ e. n (sym e)) in ((λ e. r.0 (sym e)), (λ e. r.1 (sym e)))

apart_self : (f : Fact) → Apart f f
apart_self f = λ n. absurd (n refl)

pub all-swapped : (p : Fact → Type 0) (f : Fact) (gs : List Fact) → p f → AllOf p gs
    → AllOf p (swapped fact_id f gs)
all-swapped p f [] a h = tt
all-swapped p f (g ∷ gs) a h =
    let r = all-swapped p f gs a h.1 in
    elim (g.id == f.id) as (λ b. AllOf p ((if b then f else g) ∷ swapped fact_id f gs))
    [ true ↦ (a, r) | false ↦ (h.0, r) ]

rows_place : (f : Fact) (xs ys : List Fact) → AllApart xs ys → AllOf (Apart f) xs
    → AllApart xs (with_item fact_id f ys)
rows_place f [] ys h a = tt
rows_place f (x ∷ xs) ys h a =
    (all-place (Apart x) fact_id f ys (apart_back f x a.0) h.0, rows_place f xs ys h.1 a.1)

rows_swapped : (f : Fact) (xs ys : List Fact) → AllApart xs ys → AllOf (Apart f) xs
    → AllApart xs (swapped fact_id f ys)
rows_swapped f [] ys h a = tt
rows_swapped f (x ∷ xs) ys h a =
    (all-swapped (Apart x) f ys (apart_back f x a.0) h.0, rows_swapped f xs ys h.1 a.1)

later : (n : ℕ) (f : Fact) → IsBelow n f → IsBelow (n + 1) f
later n f h = let a = h.0 in let b = h.1 in (omega (arith, a), omega (arith, b))

-- an arc that shares no stamp with another is added
pub own_added : (f : Fact) (live old : List Fact) (n : ℕ) → OwnStamps live old n
    → AllOf (Apart f) live → AllOf (Apart f) old → IsBelow (n + 1) f
    → OwnStamps (with_item fact_id f live) old (n + 1)
own_added f live old n h a b l = record {
  present = rows_place f (with_item fact_id f live) live
      (all-place (λ x. AllOf (Apart x) live) fact_id f live a h.present)
      (all-place (Apart f) fact_id f live (apart_self f) a);
  across = all-place (λ x. AllOf (Apart x) old) fact_id f live b h.across;
  copies = h.copies;
  present_below =
      all-place (IsBelow (n + 1)) fact_id f live l (all_more (later n) live h.present_below);
  copies_below = all_more (later n) old h.copies_below;
}

-- or put in place of the fact of its id
pub own_swapped : (f : Fact) (live old : List Fact) (n : ℕ) → OwnStamps live old n
    → AllOf (Apart f) live → AllOf (Apart f) old → IsBelow (n + 1) f
    → OwnStamps (swapped fact_id f live) old (n + 1)
own_swapped f live old n h a b l = record {
  present = rows_swapped f (swapped fact_id f live) live
      (all-swapped (λ x. AllOf (Apart x) live) f live a h.present)
      (all-swapped (Apart f) f live (apart_self f) a);
  across = all-swapped (λ x. AllOf (Apart x) old) f live b h.across;
  copies = h.copies;
  present_below = all-swapped (IsBelow (n + 1)) f live l (all_more (later n) live h.present_below);
  copies_below = all_more (later n) old h.copies_below;
}

pub own_later : (live old : List Fact) (n : ℕ) → OwnStamps live old n → OwnStamps live old (n + 1)
own_later live old n h = record {
  present = h.present;
  across = h.across;
  copies = h.copies;
  present_below = all_more (later n) live h.present_below;
  copies_below = all_more (later n) old h.copies_below;
}

drop : (p : Fact → Type 0) (i : ℕ) (fs : List Fact) → AllOf p fs
    → AllOf p (without_item fact_id i fs)
drop p i fs h =
    all_more {p = λ f. (fact_id f ≢ i) × p f} {q = p} (λ f both. both.1) (without_item fact_id i fs)
    (all-without p fact_id i fs h)

pub own_erased : (i : ℕ) (live old : List Fact) (n : ℕ) → OwnStamps live old n
    → OwnStamps (without_item fact_id i live) old n
own_erased i live old n h = record {
  present = drop (λ f. AllOf (Apart f) (without_item fact_id i live)) i live
      (all_more (λ f a. drop (Apart f) i live a) live h.present);
  across = drop (λ f. AllOf (Apart f) old) i live h.across;
  copies = h.copies;
  present_below = drop (IsBelow n) i live h.present_below;
  copies_below = h.copies_below;
}

pub own_cleared : (live old : List Fact) (n : ℕ) → OwnStamps live old n → OwnStamps [] old n
own_cleared live old n h =
    record {
      present = tt;
      across = tt;
      copies = h.copies;
      present_below = tt;
      copies_below =
          h.copies_below;
    }

-- fewer copies
pub own_fewer : (live old less : List Fact) (n : ℕ)
    → ((p : Fact → Type 0) → AllOf p old → AllOf p less) → OwnStamps live old n
    → OwnStamps live less n
own_fewer live old less n few h = record {
  present = h.present;
  across = all_more (λ f a. few (Apart f) a) live h.across;
  copies = few (λ f. AllOf (Apart f) less) (all_more (λ f a. few (Apart f) a) old h.copies);
  present_below = h.present_below;
  copies_below = few (IsBelow n) h.copies_below;
}

-- a new arc has a stamp above all
pub apart_new : (f : Fact) (n : ℕ) (gs : List Fact) → f.from_at ≡ n → f.to_at ≡ n
    → AllOf (IsBelow n) gs → AllOf (Apart f) gs
apart_new f n gs a b h =
    all_more (λ g l. λ _. let x = l.0 in let y =
    l.1 in ((λ e. absurd (omega (arith, e, a, x))), (λ e. absurd (omega (arith, e, b, y))))) gs h

-- a stamp is new, or the one from before
abbrev pub IsNextAt : (Fact → ℕ) → ℕ → Fact → Fact → Type 0
IsNextAt at n old now = (at now ≡ n) ⊎ (at now ≡ at old)

differs_at : (at : Fact → ℕ) (n : ℕ) (old now g : Fact) → IsNextAt at n old now → at old ≢ at g
    → at g < n → at now ≢ at g
differs_at at n old now g (inl e) d l = λ s. absurd (omega (arith, s, e, l))
differs_at at n old now g (inr e) d l = λ s. d (sym e ∙ s)

pub apart_moved : (old now : Fact) (n : ℕ) (gs : List Fact) → now.id ≡ old.id
    → IsNextAt (λ f. f.from_at) n old now → IsNextAt (λ f. f.to_at) n old now → AllOf (Apart old) gs
    → AllOf (IsBelow n) gs → AllOf (Apart now) gs
apart_moved old now n [] i a b h l = tt
apart_moved old now n (g ∷ gs) i a b h l = (
  (λ d. let r =
      h.0 (λ e. d (i ∙ e)) in (
        differs_at (λ f. f.from_at) n old now g a r.0 l.0.0,
        differs_at (λ f. f.to_at) n old now g b r.1 l.0.1,
      )),
  apart_moved old now n gs i a b h.1 l.1,
)
