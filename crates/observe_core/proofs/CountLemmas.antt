-- Counts over lists by rising id.
use Rattle.std.proofs.Common.{◌≡◌, ℕ, zero, suc, ◌+◌, ◌<◌, ◌≤◌, Bool, true, false, nat_le, ◌==◌}
use Rattle.std.proofs.Common.{if◌then◌else◌, IsTrue, List, [], ◌∷◌, map, length, refl, sym, ap}
use Rattle.std.proofs.Common.{subst, ◌∙◌, arith, Contains, count_by}
use Rattle.std.proofs.lemmas.Grind.{common_steps}
use Rattle.std.proofs.lemmas.List.Sums.{sum_by-cons}
use Rattle.plain_digraph.specs.Rising.{with_item, without_item, swapped}
use Rattle.plain_digraph.specs.Lists.{AllOf}
use Rattle.observe_core.specs.Items.{place_all, has_id, rises_from, number_id, drop_number}
use Rattle.observe_core.proofs.ItemLemmas.{place-without, swapped_is, holds_only, contains-has}
use Rattle.observe_core.proofs.ItemLemmas.{and_left, and_right, length-place, has_from}

-- a number that is there is counted, and the other way round
pub counted-has : (n : ℕ) (ms : List ℕ) → 0 < count_by (λ m. m == n) ms
    → IsTrue (has_id number_id n ms)
counted-has n [] h = absurd (omega arith)
counted-has n (m ∷ ms) h =
    let e = sum_by-cons (λ m. if m == n then 1 else 0) m ms in
    let g : 0 < (if m == n then 1 else 0) + count_by (λ m. m == n) ms = rw e at h in
    elim (m == n) as (λ t. 0 < (if t then 1 else 0) + count_by (λ m. m == n) ms
    → IsTrue (if t then true else has_id number_id n ms)) [
      | true ↦ λ g. refl
      | false ↦ λ g. counted-has n ms (omega (arith, g))
    ] g

module _ {X : Type 0} (p : X → Bool) where
  pub contained-counted : (x : X) (xs : List X) → IsTrue (p x) → Contains xs x → 0 < count_by p xs
  contained-counted x [] t c = absurd (omega (arith, c.1))
  contained-counted x (y ∷ ys) t (zero, l, c) = let e : y ≡ x = c in let s =
      sum_by-cons (λ z. if p z then 1 else 0) y ys in grind (arith, common_steps, t, e, s)
  contained-counted x (y ∷ ys) t (suc k, l, c) =
      let r = contained-counted x ys t (k, omega (arith, l), c) in let s =
      sum_by-cons (λ z. if p z then 1 else 0) y ys in omega (arith, r, s)

-- a number that is dropped was counted once more
pub count-drop : (n v : ℕ) (ms : List ℕ) → IsTrue (has_id number_id n ms)
    → count_by (λ m. m == v) ms
    ≡ (if n == v then 1 else 0) + count_by (λ m. m == v) (drop_number n ms)
count-drop n v [] h = cc
count-drop n v (m ∷ ms) h =
    let a = sum_by-cons (λ z. if z == v then 1 else 0) m ms in
    let b = sum_by-cons (λ z. if z == v then 1 else 0) m (drop_number n ms) in
    elim (m == n) as (λ t. (m == n) ≡ t → IsTrue (if t then true else has_id number_id n ms)
    → count_by (λ m. m == v) (m ∷ ms)
    ≡ (if n == v then 1 else 0) + count_by (λ m. m == v)
    (if t then ms else m ∷ drop_number n ms)) [
      | true ↦ λ t g. let e : m ≡ n =
          grind (arith, common_steps, t) in subst
          (λ z. count_by (λ m. m == v) (m ∷ ms)
          ≡ (if z == v then 1 else 0) + count_by (λ m. m == v) ms) e a
      | false ↦ λ t g. let r = count-drop n v ms g in omega (arith, a, b, r)
    ] refl h

module _ {X : Type 0} (p : X → ℕ) (q : X → Bool) where
  pub count-place : (x : X) (xs : List X)
      → count_by q (with_item p x xs) ≡ (if q x then 1 else 0) + count_by q xs
  count-place x [] = sum_by-cons (λ z. if q z then 1 else 0) x []
  count-place x (y ∷ ys) =
      let r = count-place x ys in
      let a = sum_by-cons (λ z. if q z then 1 else 0) y (with_item p x ys) in
      let b = sum_by-cons (λ z. if q z then 1 else 0) y ys in
      let d = sum_by-cons (λ z. if q z then 1 else 0) x (y ∷ ys) in
      elim (nat_le (p x) (p y)) as (λ t. count_by q (if t then x ∷ y ∷ ys else y ∷ with_item p x ys)
      ≡ (if q x then 1 else 0) + count_by q (y ∷ ys)) [
        | true ↦ d
        | false ↦ omega (arith, a, b, r)
      ]

  pub count-place_all : (xs ys : List X)
      → count_by q (place_all p xs ys) ≡ count_by q xs + count_by q ys
  count-place_all [] ys = omega arith
  count-place_all (x ∷ xs) ys =
      let r = count-place_all xs (with_item p x ys) in
      let a = count-place x ys in
      let b = sum_by-cons (λ z. if q z then 1 else 0) x xs in
      omega (arith, r, a, b)

  -- an item that is there is counted beside the others
  pub count-without : (x : X) (ys : List X) → IsTrue (rises_from p 0 ys) → Contains ys x
      → count_by q ys ≡ (if q x then 1 else 0) + count_by q (without_item p (p x) ys)
  count-without x ys s c =
      ap (count_by q)
      (sym (place-without p 0 x ys s (holds_only p 0 x ys s c) (contains-has p x ys c)))
      ∙ count-place x (without_item p (p x) ys)

  -- an exchange counts the new item in place of the old one
  pub count-swapped : (old now : X) (ys : List X) → IsTrue (rises_from p 0 ys) → Contains ys old
      → p now ≡ p old
      → count_by q (swapped p now ys)
      ≡ (if q now then 1 else 0) + count_by q (without_item p (p old) ys)
  count-swapped old now ys s c e =
      ap (count_by q)
      (swapped_is p 0 now ys s
      (subst (λ i. IsTrue (has_id p i ys)) (sym e) (contains-has p old ys c)))
      ∙ count-place now (without_item p (p now) ys)
      ∙ ap (λ i. (if q now then 1 else 0) + count_by q (without_item p i ys)) e

module _ {X : Type 0} (p : X → ℕ) where
  pub length-without : (x : X) (ys : List X) → IsTrue (rises_from p 0 ys) → Contains ys x
      → length ys ≡ length (without_item p (p x) ys) + 1
  length-without x ys s c =
      ap length (sym (place-without p 0 x ys s (holds_only p 0 x ys s c) (contains-has p x ys c)))
      ∙ length-place p x (without_item p (p x) ys)

module _ {X : Type 0} (g : X → ℕ) where
  pub count-map : (v : ℕ) (xs : List X)
      → count_by (λ n. n == v) (map g xs) ≡ count_by (λ x. g x == v) xs
  count-map v [] = refl
  count-map v (x ∷ xs) =
      let a = sum_by-cons (λ n. if n == v then 1 else 0) (g x) (map g xs) in
      let b = sum_by-cons (λ x. if g x == v then 1 else 0) x xs in
      let r = count-map v xs in
      omega (arith, a, b, r)

-- ids among those of a list are no more than that list has
pub among-fewer : {X : Type 0} (p : X → ℕ) (low : ℕ) (ids : List ℕ) (ys : List X)
    → IsTrue (rises_from number_id low ids) → IsTrue (rises_from p low ys)
    → AllOf (λ i. IsTrue (has_id p i ys)) ids → length ids ≤ length ys
among-fewer p low [] ys s t h = omega arith
among-fewer p low (i ∷ ids) [] s t h = cc
among-fewer {X} p low (i ∷ ids) (y ∷ ys) s t h =
    let b = and_right (nat_le low (p y)) (rises_from p (p y + 1) ys) t in
    let d = and_right (nat_le low i) (rises_from number_id (i + 1) ids) s in
    elim (p y == i) as (λ c. (p y == i) ≡ c → length (i ∷ ids) ≤ length (y ∷ ys)) [
      | true ↦ λ e.
          let m : p y ≡ i = grind (arith, common_steps, e) in
          let r = among-fewer p (i + 1) ids ys d (subst (λ n. IsTrue (rises_from p (n + 1) ys)) m b)
          (behind (i + 1) ids d (omega (arith, m)) h.1) in
          omega (arith, r)
      | false ↦ λ e.
          let k : IsTrue (has_id p i ys) = grind (arith, common_steps, e, h.0) in
          let l : p y + 1 ≤ i = has_from p (p y + 1) i ys b k in
          let r = among-fewer p (p y + 1) (i ∷ ids) ys (grind (arith, common_steps, l, d)) b
          (k, behind (i + 1) ids d (omega (arith, l)) h.1) in
          omega (arith, r)
    ] refl
  where
    behind : (low : ℕ) (ids : List ℕ) → IsTrue (rises_from number_id low ids) → p y < low
        → AllOf (λ i. IsTrue (has_id p i (y ∷ ys))) ids → AllOf (λ i. IsTrue (has_id p i ys)) ids
    behind low [] s l h = tt
    behind low (j ∷ js) s l h =
        let a = and_left (nat_le low j) (rises_from number_id (j + 1) js) s in
        let b = and_right (nat_le low j) (rises_from number_id (j + 1) js) s in
        let t = h.0 in
        let m : p y < j = grind (arith, common_steps, a, l) in
        (grind (arith, common_steps, t, m), behind (j + 1) js b (omega (arith, m)) h.1)
