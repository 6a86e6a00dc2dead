-- Facts with the marks of a column.
use Rattle.std.proofs.Common.{◌≡◌, ◌≢◌, ℕ, zero, suc, ◌+◌, ◌-◌, ◌<◌, ◌≤◌, nat_le, nat_lt, Bool}
use Rattle.std.proofs.Common.{true, false, ◌==◌, if◌then◌else◌, IsTrue, List, [], ◌∷◌, ◌++◌, map}
use Rattle.std.proofs.Common.{length, replicate, take, take_all, get_or, set, drop, drop-cons, refl}
use Rattle.std.proofs.Common.{ap, ◌∙◌, arith}
use Rattle.std.proofs.lemmas.Grind.{common_steps}
use Rattle.std.proofs.lemmas.List.{get_or-set_other, get_or-set_same}
use Rattle.base_items.specs.declared.items.Fact.{Fact}
use Rattle.plain_digraph.specs.Facts.{fact_id}
use Rattle.observe_core.specs.Held.{marked_id}
use Rattle.plain_digraph.specs.Rising.{with_item, without_item, swapped}
use Rattle.plain_digraph.specs.Lists.{AllOf}
use Rattle.observe_core.specs.Items.{Lacks, has_id, above_all}
use Rattle.observe_core.specs.Told.{new_marked, marked_moved}
use Rattle.observe_core.proofs.ItemLemmas.{map-place, map-without}
use Rattle.kept_views.specs.declared.items.Marks.{Marks}
use Rattle.kept_views.specs.ItemViews.{no_marks, with_marks, marked, marked_set}

agree : (ms ns : List Marks) (fs : List Fact)
    → AllOf (λ f. get_or ms f.id no_marks ≡ get_or ns f.id no_marks) fs
    → map (marked ms) fs ≡ map (marked ns) fs
agree ms ns [] h = refl
agree ms ns (f ∷ fs) h =
    let r = agree ms ns fs h.1 in
    let e = h.0 in
    λ i. record {
      fact = f;
      shown = (e i).shown;
      forward = (e i).forward;
      backward =
          (e i).backward;
    } ∷ r i

others : (ms : List Marks) (i : ℕ) (m : Marks) (fs : List Fact) → Lacks fact_id i fs
    → AllOf (λ f. get_or (set ms i m) f.id no_marks ≡ get_or ms f.id no_marks) fs
others ms i m [] h = tt
others ms i m (f ∷ fs) h = (get_or-set_other ms i f.id m no_marks h.0, others ms i m fs h.1)

-- a new arc
pub put-items : (ms : List Marks) (all : Bool) (f : Fact) (fs : List Fact) → f.id < length ms
    → Lacks fact_id f.id fs
    → map (marked (set ms f.id (record { shown = all; forward = false; backward = false })))
    (with_item fact_id f fs) ≡ with_item marked_id (new_marked all f) (map (marked ms) fs)
put-items ms all f fs l h =
    let m : Marks = record { shown = all; forward = false; backward = false } in
    let ns = set ms f.id m in
    let e : get_or ns f.id no_marks ≡ m = get_or-set_same ms f.id m no_marks l in
    let x : marked ns f ≡ new_marked all f = λ i.
    record {
      fact = f;
      shown = (e i).shown;
      forward = (e i).forward;
      backward =
          (e i).backward;
    } in
    map-place (marked ns) marked_id f fs ∙ ap (λ y. with_item marked_id y (map (marked ns) fs)) x
    ∙ ap (with_item marked_id (new_marked all f)) (agree ns ms fs (others ms f.id m fs h))

-- an arc less
pub taken-items : (ms : List Marks) (i : ℕ) (fs : List Fact)
    → map (marked ms) (without_item fact_id i fs) ≡ without_item marked_id i (map (marked ms) fs)
taken-items ms i fs = map-without (marked ms) marked_id i fs

-- a moved arc keeps its marks
pub moved-items : (ms : List Marks) (now : Fact) (fs : List Fact)
    → map (marked ms) (swapped fact_id now fs) ≡ marked_moved now (map (marked ms) fs)
moved-items ms now [] = refl
moved-items ms now (f ∷ fs) =
    let r = moved-items ms now fs in
    elim (f.id == now.id) as (λ b. (f.id == now.id) ≡ b
    → map (marked ms) ((if b then now else f) ∷ swapped fact_id now fs)
    ≡ (if b then record (marked ms f) { fact = now } else marked ms f) ∷ marked_moved now
    (map (marked ms) fs)) [
      | true ↦ λ q.
          let e : now.id ≡ f.id = grind (arith, common_steps, q) in
          let m = ap (λ i. get_or ms i no_marks) e in
          λ i. record {
            fact = now;
            shown = (m i).shown;
            forward = (m i).forward;
            backward =
                (m i).backward;
          } ∷ r i
      | false ↦ λ q. ap (λ l. marked ms f ∷ l) r
    ] refl

-- an arc placed anew
pub set-items : (ms : List Marks) (id : ℕ) (m : Marks) (fs : List Fact) → id < length ms
    → map (marked (set ms id m)) fs ≡ marked_set id m (map (marked ms) fs)
set-items ms id m [] l = refl
set-items ms id m (f ∷ fs) l =
    let r = set-items ms id m fs l in
    elim (f.id == id) as (λ b. (f.id == id) ≡ b
    → map (marked (set ms id m)) (f ∷ fs)
    ≡ (if b then with_marks m f else marked ms f) ∷ marked_set id m (map (marked ms) fs)) [
      | true ↦ λ q.
          let e : f.id ≡ id = grind (arith, common_steps, q) in
          let x : get_or (set ms id m) f.id no_marks ≡ m =
          ap (λ i. get_or (set ms id m) i no_marks) e ∙ get_or-set_same ms id m no_marks l in
          λ i. record {
            fact = f;
            shown = (x i).shown;
            forward = (x i).forward;
            backward =
                (x i).backward;
          } ∷ r i
      | false ↦ λ q.
          let n : f.id ≢ id =
          (λ e. let t : (f.id == id) ≡ true = grind (arith, common_steps, e) in cc) in
          let x = get_or-set_other ms id f.id m no_marks n in
          λ i. record {
            fact = f;
            shown = (x i).shown;
            forward = (x i).forward;
            backward =
                (x i).backward;
          } ∷ r i
    ] refl

replicate-read : (n i : ℕ) → get_or (replicate n no_marks) i no_marks ≡ no_marks
replicate-read zero i = refl
replicate-read (suc n) zero = refl
replicate-read (suc n) (suc i) = replicate-read n i

grown-read : (ms : List Marks) (n i : ℕ)
    → get_or (ms ++ replicate n no_marks) i no_marks ≡ get_or ms i no_marks
grown-read [] n i = replicate-read n i
grown-read (m ∷ ms) n zero = refl
grown-read (m ∷ ms) n (suc i) = grown-read ms n i

all_grown : (ms : List Marks) (n : ℕ) (fs : List Fact)
    → AllOf (λ f. get_or (ms ++ replicate n no_marks) f.id no_marks ≡ get_or ms f.id no_marks) fs
all_grown ms n [] = tt
all_grown ms n (f ∷ fs) = (grown-read ms n f.id, all_grown ms n fs)

-- what a resize that may fail leaves
pub resized : (b : Bool) (n m : ℕ) (ms : List Marks) (fs : List Fact) → length ms ≤ n
    → map (marked (if b then take n ms ++ replicate (n - m) no_marks else ms)) fs
    ≡ map (marked ms) fs
resized true n m ms fs l =
    rw (take_all n ms l) (agree (ms ++ replicate (n - m) no_marks) ms fs (all_grown ms (n - m) fs))
resized false n m ms fs l = refl

pub above-has : (i : ℕ) (fs : List Fact) → IsTrue (has_id fact_id i fs)
    → i < above_all (map fact_id fs)
above-has i [] h = cc
above-has i (f ∷ fs) h =
    elim (f.id == i) as (λ b. (f.id == i) ≡ b → IsTrue (if b then true else has_id fact_id i fs)
    → i < above_all (map fact_id (f ∷ fs))) [
      | true ↦ λ t g. grind (arith, common_steps, t)
      | false ↦ λ t g. let r = above-has i fs g in grind (arith, common_steps, r)
    ] refl h

pub above-place : (f : Fact) (fs : List Fact) (n : ℕ) → f.id < n → above_all (map fact_id fs) ≤ n
    → above_all (map fact_id (with_item fact_id f fs)) ≤ n
above-place f [] n l h = grind (arith, common_steps, l)
above-place f (g ∷ gs) n l h =
    let r = above-place f gs n l (rest (above_all (map fact_id gs)) g.id h) in
    let a = first (above_all (map fact_id gs)) g.id h in
    elim (nat_le f.id g.id) as (λ b.
    above_all (map fact_id (if b then f ∷ g ∷ gs else g ∷ with_item fact_id f gs)) ≤ n) [
      | true ↦ grind (arith, common_steps, l, h)
      | false ↦ grind (arith, common_steps, r, a)
    ]
  where
    rest : (m k : ℕ) → (if nat_lt k m then m else k + 1) ≤ n → m ≤ n
    rest m k h = grind (arith, common_steps, h)

    first : (m k : ℕ) → (if nat_lt k m then m else k + 1) ≤ n → k < n
    first m k h = grind (arith, common_steps, h)

pub above-without : (i : ℕ) (fs : List Fact) (n : ℕ) → above_all (map fact_id fs) ≤ n
    → above_all (map fact_id (without_item fact_id i fs)) ≤ n
above-without i [] n h = h
above-without i (g ∷ gs) n h =
    let r = above-without i gs n (rest (above_all (map fact_id gs)) g.id h) in
    let a = first (above_all (map fact_id gs)) g.id h in
    elim (g.id == i) as (λ b.
    above_all (map fact_id
    (if b then without_item fact_id i gs else g ∷ without_item fact_id i gs)) ≤ n) [
      | true ↦ r
      | false ↦ grind (arith, common_steps, r, a)
    ]
  where
    rest : (m k : ℕ) → (if nat_lt k m then m else k + 1) ≤ n → m ≤ n
    rest m k h = grind (arith, common_steps, h)

    first : (m k : ℕ) → (if nat_lt k m then m else k + 1) ≤ n → k < n
    first m k h = grind (arith, common_steps, h)

pub swapped-ids : (now : Fact) (fs : List Fact)
    → map fact_id (swapped fact_id now fs) ≡ map fact_id fs
swapped-ids now [] = refl
swapped-ids now (g ∷ gs) =
    let r = swapped-ids now gs in
    elim (g.id == now.id) as (λ b. (g.id == now.id) ≡ b
    → map fact_id ((if b then now else g) ∷ swapped fact_id now gs) ≡ map fact_id (g ∷ gs)) [
      | true ↦ λ t. let e : now.id ≡ g.id = grind (arith, common_steps, t) in λ i. e i ∷ r i
      | false ↦ λ t. ap (λ l. g.id ∷ l) r
    ] refl

-- the first of the new arcs that are left
pub new-front : (all : Bool) (fs : List Fact) (i : ℕ) (d : Fact) → i < length fs
    → map (new_marked all) (drop i fs)
    ≡ new_marked all (get_or fs i d) ∷ map (new_marked all) (drop (i + 1) fs)
new-front all fs i d l = let e : suc i ≡ i + 1 =
    omega arith in ap (map (new_marked all))
    (drop-cons fs i d l ∙ ap (λ n. get_or fs i d ∷ drop n fs) e)

-- an item is there where its fact is
pub has-marked : (ms : List Marks) (i : ℕ) (fs : List Fact)
    → has_id marked_id i (map (marked ms) fs) ≡ has_id fact_id i fs
has-marked ms i [] = refl
has-marked ms i (f ∷ fs) = ap (λ b. if f.id == i then true else b) (has-marked ms i fs)
