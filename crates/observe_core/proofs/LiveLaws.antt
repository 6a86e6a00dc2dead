-- Lists of live facts stay such lists.
use Rattle.std.proofs.Common.{◌≡◌, ℕ, ◌+◌, ◌≤◌, nat_le, true, false, ◌==◌, if◌then◌else◌, IsTrue}
use Rattle.std.proofs.Common.{List, [], ◌∷◌, length, refl, sym, subst, arith}
use Rattle.std.proofs.lemmas.Grind.{common_steps}
use Rattle.base_items.specs.declared.items.Fact.{Fact}
use Rattle.plain_digraph.specs.Rising.{with_item, without_item, swapped}
use Rattle.plain_digraph.specs.Lists.{AllOf}
use Rattle.observe_core.specs.Items.{place_all, Lacks, rises_from}
use Rattle.plain_digraph.specs.Facts.{fact_id}
use Rattle.observe_core.specs.Facts.{IsInBounds, AllInBounds, HasDistinctIds, IsLive}
use Rattle.observe_core.proofs.ItemLemmas.{and_left, and_right, rises_higher, all-place}
use Rattle.observe_core.proofs.ItemLemmas.{all-without, all_more, length-place_all}
use Rattle.observe_core.proofs.SlotLemmas.{lacks-place}

module _ {X : Type 0} (p : X → ℕ) where
  pub rises-place : (low : ℕ) (x : X) (ys : List X) → IsTrue (rises_from p low ys) → low ≤ p x
      → Lacks p (p x) ys → IsTrue (rises_from p low (with_item p x ys))
  rises-place low x [] s l h = grind (arith, common_steps, l)
  rises-place low x (y ∷ ys) s l h =
      let a = and_left (nat_le low (p y)) (rises_from p (p y + 1) ys) s in
      let b = and_right (nat_le low (p y)) (rises_from p (p y + 1) ys) s in
      let n = h.0 in
      elim (nat_le (p x) (p y)) as (λ c. nat_le (p x) (p y) ≡ c
      → IsTrue (rises_from p low (if c then x ∷ y ∷ ys else y ∷ with_item p x ys))) [
        | true ↦ λ t. grind (arith, common_steps, a, b, l, n, t)
        | false ↦ λ t.
            let r = rises-place (p y + 1) x ys b (grind (arith, common_steps, t)) h.1 in
            grind (arith, common_steps, a, r)
      ] refl

  pub rises-without : (low i : ℕ) (ys : List X) → IsTrue (rises_from p low ys)
      → IsTrue (rises_from p low (without_item p i ys))
  rises-without low i [] s = refl
  rises-without low i (y ∷ ys) s =
      let a = and_left (nat_le low (p y)) (rises_from p (p y + 1) ys) s in
      let b = and_right (nat_le low (p y)) (rises_from p (p y + 1) ys) s in
      let w = rises-without (p y + 1) i ys b in
      elim (p y == i) as (λ t.
      IsTrue (rises_from p low (if t then without_item p i ys else y ∷ without_item p i ys))) [
        | true ↦ rises_higher p low (p y + 1) (without_item p i ys) w
            (grind (arith, common_steps, a))
        | false ↦ grind (arith, common_steps, a, w)
      ]

  pub rises-swapped : (low : ℕ) (x : X) (ys : List X) → IsTrue (rises_from p low ys)
      → IsTrue (rises_from p low (swapped p x ys))
  rises-swapped low x [] s = refl
  rises-swapped low x (y ∷ ys) s =
      let a = and_left (nat_le low (p y)) (rises_from p (p y + 1) ys) s in
      let b = and_right (nat_le low (p y)) (rises_from p (p y + 1) ys) s in
      elim (p y == p x) as (λ t. (p y == p x) ≡ t
      → IsTrue (rises_from p low ((if t then x else y) ∷ swapped p x ys))) [
        | true ↦ λ t.
            let e : p y ≡ p x = grind (arith, common_steps, t) in
            let w = subst (λ n. IsTrue (rises_from p (n + 1) (swapped p x ys))) e
            (rises-swapped (p y + 1) x ys b) in
            grind (arith, common_steps, a, e, w)
        | false ↦ λ t. let w = rises-swapped (p y + 1) x ys b in grind (arith, common_steps, a, w)
      ] refl

all-swapped : (P : Fact → Type 0) (x : Fact) (ys : List Fact) → P x → AllOf P ys
    → AllOf P (swapped fact_id x ys)
all-swapped P x [] a h = tt
all-swapped P x (y ∷ ys) a h =
    elim (y.id == x.id) as (λ b. AllOf P ((if b then x else y) ∷ swapped fact_id x ys)) [
      | true ↦ (a, all-swapped P x ys a h.1)
      | false ↦ (h.0, all-swapped P x ys a h.1)
    ]

pub live-added : (f : Fact) (live : List Fact) → IsLive live → Lacks fact_id f.id live
    → IsInBounds f → IsLive (with_item fact_id f live)
live-added f live h l b =
    record {
      rising = rises-place fact_id 0 f live h.rising (omega arith) l;
      bounded =
          all-place IsInBounds fact_id f live b h.bounded;
    }

pub live-shifted : (now : Fact) (live : List Fact) → IsLive live → IsInBounds now
    → IsLive (swapped fact_id now live)
live-shifted now live h b =
    record {
      rising = rises-swapped fact_id 0 now live h.rising;
      bounded =
          all-swapped IsInBounds now live b h.bounded;
    }

pub live-erased : (i : ℕ) (live : List Fact) → IsLive live → IsLive (without_item fact_id i live)
live-erased i live h =
    record {
      rising = rises-without fact_id 0 i live h.rising;
      bounded =
          all_more (λ g w. w.1) (without_item fact_id i live)
          (all-without IsInBounds fact_id i live h.bounded);
    }

apart_all : (f : Fact) (fs live : List Fact) → Lacks fact_id f.id fs
    → AllOf (λ g. Lacks fact_id g.id live) fs
    → AllOf (λ g. Lacks fact_id g.id (with_item fact_id f live)) fs
apart_all f [] live l h = tt
apart_all f (g ∷ gs) live l h =
    (lacks-place fact_id g.id f live (λ e. l.0 (sym e)) h.0, apart_all f gs live l.1 h.1)

place_all-live : (all live : List Fact) → HasDistinctIds all → AllInBounds all
    → AllOf (λ g. Lacks fact_id g.id live) all → IsLive live → IsLive (place_all fact_id all live)
place_all-live [] live d b a h = h
place_all-live (f ∷ fs) live d b a h =
    place_all-live fs (with_item fact_id f live) d.1 b.1 (apart_all f fs live d.0 a.1)
    (live-added f live h a.0 b.0)

free : (all : List Fact) → AllOf (λ g. Lacks fact_id g.id []) all
free [] = tt
free (f ∷ fs) = (tt, free fs)

pub live-built : (all : List Fact) → HasDistinctIds all → AllInBounds all
    → IsLive (place_all fact_id all [])
live-built all d b = place_all-live all [] d b (free all) (record { rising = refl; bounded = tt })

few : (low : ℕ) (fs : List Fact) → low ≤ 4194304 → IsTrue (rises_from fact_id low fs)
    → AllInBounds fs → length fs + low ≤ 4194304
few low [] l s b = omega (arith, l)
few low (f ∷ fs) l s b =
    let a = and_left (nat_le low f.id) (rises_from fact_id (f.id + 1) fs) s in
    let t : low ≤ f.id = grind (arith, common_steps, a) in
    let u = b.0.0 in
    let r = few (f.id + 1) fs (omega (arith, u))
    (and_right (nat_le low f.id) (rises_from fact_id (f.id + 1) fs) s) b.1 in
    omega (arith, t, r)

-- there are no more live items than ids
pub live-few : (live : List Fact) → IsLive live → length live ≤ 4194304
live-few live h = let r = few 0 live (omega arith) h.rising h.bounded in omega (arith, r)

pub distinct-few : (all : List Fact) → HasDistinctIds all → AllInBounds all → length all ≤ 4194304
distinct-few all d b = let r = live-few (place_all fact_id all []) (live-built all d b) in let e =
    length-place_all fact_id all [] in omega (arith, r, e)
