-- How many ends of live arcs are counted.
use Rattle.std.proofs.Common.{◌≡◌, ℕ, zero, suc, ◌+◌, ◌-◌, ◌<◌, ◌≤◌, Bool, true, false, ◌==◌}
use Rattle.std.proofs.Common.{if◌then◌else◌, List, [], ◌∷◌, ◌++◌, replicate, take, take_all, length}
use Rattle.std.proofs.Common.{get_or, count_by, map, nat_le, drop, drop-cons, refl, sym, ap, ◌∙◌}
use Rattle.std.proofs.Common.{arith}
use Rattle.std.proofs.lemmas.Grind.{common_steps}
use Rattle.std.proofs.lemmas.List.Sums.{sum_by-cons, count_by-le-length}
use Rattle.base_items.specs.declared.items.Fact.{Fact}
use Rattle.observe_core.specs.Facts.{end_of, IsLive}
use Rattle.observe_core.specs.Held.{Held, Nothing, Values, Degree, Half, Kept, Ties}
use Rattle.observe_core.specs.Seen.{Seen}
use Rattle.observe_core.specs.Items.{drop_number}
use Rattle.observe_core.proofs.LiveLaws.{live-few}
use Rattle.observe_core.specs.Items.{put_number, number_id, above_all}
use Rattle.observe_core.proofs.CountLemmas.{count-place}
use Rattle.index_maps.specs.Counted.{expand, how_often, turned}
use Rattle.index_maps.specs.Expanding.{expand-grown}

pub read-at : {X : Type 0} (i : ℕ) (x d : X) (xs : List X) → i < length xs → x ≡ get_or xs i x
    → get_or xs i d ≡ x
read-at i x d [] l e = absurd (omega (arith, l))
read-at zero x d (y ∷ ys) l e = sym e
read-at (suc i) x d (y ∷ ys) l e = read-at i x d ys (omega (arith, l)) e

-- a node's count is below the number of ids
pub few-ends : (out : Bool) (ends : List ℕ) (live : List Fact) (v : ℕ) → IsLive live
    → ((v : ℕ) → count_by (λ n. n == v) ends ≡ count_by (λ f. end_of out f == v) live)
    → count_by (λ n. n == v) ends ≤ 4194304
few-ends out ends live v l h =
    let a = h v in
    let b = count_by-le-length (λ f. end_of out f == v) live in
    let c = live-few live l in
    omega (arith, a, b, c)

pub drop-fewer : (n v : ℕ) (ends : List ℕ)
    → count_by (λ m. m == v) (drop_number n ends) ≤ count_by (λ m. m == v) ends
drop-fewer n v [] = omega arith
drop-fewer n v (m ∷ ms) =
    let r = drop-fewer n v ms in
    let a = sum_by-cons (λ z. if z == v then 1 else 0) m ms in
    let b = sum_by-cons (λ z. if z == v then 1 else 0) m (drop_number n ms) in
    elim (m == n) as (λ t.
    count_by (λ m. m == v) (if t then ms else m ∷ drop_number n ms) ≤ count_by (λ m. m == v)
    (m ∷ ms)) [
      | true ↦ omega (arith, a)
      | false ↦ omega (arith, a, b, r)
    ]

-- what a resize that may fail leaves
pub resized : (b : Bool) (n m : ℕ) (cs : List ℕ) → length cs ≤ n
    → expand 0 (if b then take n cs ++ replicate (n - m) 0 else cs) ≡ expand 0 cs
resized true n m cs l = rw (take_all n cs l) (expand-grown 0 (n - m) cs)
resized false n m cs l = refl

pub put-once : (n : ℕ) (ns : List ℕ) → how_often n (put_number n ns) ≡ 1 + how_often n ns
put-once n ns =
    let a = count-place number_id (λ m. m == n) n ns in
    let q : (n == n) ≡ true = grind (arith, common_steps) in
    a ∙ ap (λ b. (if b then 1 else 0) + how_often n ns) q

pub above-put : (n : ℕ) (ns : List ℕ) → n < above_all (put_number n ns)
above-put n [] = grind (arith, common_steps)
above-put n (m ∷ ms) =
    let r = above-put n ms in
    elim (nat_le n m) as (λ b. nat_le n m ≡ b
    → n < above_all (if b then n ∷ m ∷ ms else m ∷ put_number n ms)) [
      | true ↦ λ t. grind (arith, common_steps)
      | false ↦ λ t. grind (arith, common_steps, r)
    ] refl

pub often-few : (v : ℕ) (ns : List ℕ) → how_often v ns ≤ length ns
often-few v ns = count_by-le-length (λ n. n == v) ns

pub put-length : (n : ℕ) (ns : List ℕ) → length (put_number n ns) ≡ length ns + 1
put-length n [] = omega arith
put-length n (m ∷ ms) = let r = put-length n ms in grind (arith, common_steps, r)

-- the first of the ends that are left
pub ends-front : (out : Bool) (all : List Fact) (i : ℕ) (d : Fact) → i < length all
    → map (end_of out) (drop i all)
    ≡ end_of out (get_or all i d) ∷ map (end_of out) (drop (i + 1) all)
ends-front out all i d l = let e : suc i ≡ i + 1 =
    omega arith in ap (map (end_of out))
    (drop-cons all i d l ∙ ap (λ n. get_or all i d ∷ drop n all) e)

-- what a degree map holds
abbrev ends_in : Held → List ℕ
ends_in Nothing = []
ends_in (Values t es) = []
ends_in (Degree out ends) = ends
ends_in (Half added others kept valid) = []
ends_in (Kept role all items) = []
ends_in (Ties ties) = []

abbrev pub ends-seen : Seen → List ℕ
ends-seen s = ends_in s.held

abbrev out_in : Held → Bool
out_in Nothing = true
out_in (Values t es) = true
out_in (Degree out ends) = out
out_in (Half added others kept valid) = true
out_in (Kept role all items) = true
out_in (Ties ties) = true

abbrev pub out-seen : Seen → Bool
out-seen s = out_in s.held

pub turned-few : (from to : ℕ) (ns : List ℕ)
    → how_often to (turned from to ns) ≤ 1 + how_often to ns
turned-few from to ns = let a = put-once to (drop_number from ns) in let b =
    drop-fewer from to ns in omega (arith, a, b)
