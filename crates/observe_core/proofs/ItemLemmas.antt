-- Lists by rising id: what goes in comes out again.
use Rattle.std.proofs.Common.{◌≡◌, ◌≢◌, ℕ, zero, suc, ◌+◌, ◌<◌, ◌≤◌, Bool, true, false, ◌&&◌}
use Rattle.std.proofs.Common.{nat_le, ◌==◌, if◌then◌else◌, IsTrue, List, [], ◌∷◌, map, length}
use Rattle.std.proofs.Common.{get_or, refl, sym, ap, subst, ◌∙◌, arith, Contains}
use Rattle.std.proofs.lemmas.Grind.{common_steps}
use Rattle.plain_digraph.specs.Rising.{with_item, without_item, swapped}
use Rattle.plain_digraph.specs.Lists.{AllOf}
use Rattle.observe_core.specs.Items.{place_all, Lacks, HoldsOnly, has_id, rises_from, put_number}
use Rattle.observe_core.specs.Items.{drop_number, starts_at, never_falls}

module _ {X : Type 0} (id_of : X → ℕ) where
  pub without-lacks : (i : ℕ) (ys : List X) → Lacks id_of i ys → without_item id_of i ys ≡ ys
  without-lacks i [] h = refl
  without-lacks i (y ∷ ys) h = let e = without-lacks i ys h.1 in let p =
      h.0 in grind (arith, common_steps, e, p)

  -- an item put in and taken out again leaves the list
  pub without-place : (x : X) (ys : List X) → Lacks id_of (id_of x) ys
      → without_item id_of (id_of x) (with_item id_of x ys) ≡ ys
  without-place x [] h = grind (arith, common_steps)
  without-place x (y ∷ ys) h =
      let e = without-place x ys h.1 in
      let l = without-lacks (id_of x) ys h.1 in
      let p = h.0 in
      elim (nat_le (id_of x) (id_of y)) as (λ b. nat_le (id_of x) (id_of y) ≡ b
      → without_item id_of (id_of x) (if b then x ∷ y ∷ ys else y ∷ with_item id_of x ys)
      ≡ y ∷ ys) [
        | true ↦ λ t. grind (arith, common_steps, e, l, p)
        | false ↦ λ t. grind (arith, common_steps, e, l, p)
      ] refl

  -- an item exchanged and exchanged back leaves the list
  pub swapped-back : (old now : X) (ys : List X) → id_of now ≡ id_of old → HoldsOnly id_of old ys
      → swapped id_of old (swapped id_of now ys) ≡ ys
  swapped-back old now [] e h = refl
  swapped-back old now (y ∷ ys) e h =
      let r = swapped-back old now ys e h.1 in
      let p = h.0 in
      elim (id_of y == id_of now) as (λ b. (id_of y == id_of now) ≡ b
      → swapped id_of old ((if b then now else y) ∷ swapped id_of now ys) ≡ y ∷ ys) [
        | true ↦ λ t. grind (arith, common_steps, r, p)
        | false ↦ λ t. grind (arith, common_steps, r, p)
      ] refl

pub drop-put_number : (n : ℕ) (ms : List ℕ) → drop_number n (put_number n ms) ≡ ms
drop-put_number n [] = grind (arith, common_steps)
drop-put_number n (m ∷ ms) =
    let e = drop-put_number n ms in
    elim (nat_le n m) as (λ b. nat_le n m ≡ b
    → drop_number n (if b then n ∷ m ∷ ms else m ∷ put_number n ms) ≡ m ∷ ms) [
      | true ↦ λ t. grind (arith, common_steps, e)
      | false ↦ λ t. grind (arith, common_steps, e)
    ] refl

pub and_left : (a b : Bool) → IsTrue (a && b) → IsTrue a
and_left true b h = refl
and_left false b h = h

pub and_right : (a b : Bool) → IsTrue (a && b) → IsTrue b
and_right true b h = h
and_right false b h = cc

module _ {X : Type 0} (id_of : X → ℕ) where
  -- ids that start higher
  pub rises_higher : (low high : ℕ) (ys : List X) → IsTrue (rises_from id_of high ys) → low ≤ high
      → IsTrue (rises_from id_of low ys)
  rises_higher low high [] h l = refl
  rises_higher low high (y ∷ ys) h l = grind (arith, common_steps, h)

  -- what rises from above an id lacks it
  pub rises-lacks : (low i : ℕ) (ys : List X) → IsTrue (rises_from id_of low ys) → i < low
      → Lacks id_of i ys
  rises-lacks low i [] h l = tt
  rises-lacks low i (y ∷ ys) h l =
      let a = and_left (nat_le low (id_of y)) (rises_from id_of (id_of y + 1) ys) h in
      let b = and_right (nat_le low (id_of y)) (rises_from id_of (id_of y + 1) ys) h in (
        grind (arith, common_steps, a),
        rises-lacks (id_of y + 1) i ys b (grind (arith, common_steps, a)),
      )

  pub lacks-holds_only : (x : X) (ys : List X) → Lacks id_of (id_of x) ys → HoldsOnly id_of x ys
  lacks-holds_only x [] h = tt
  lacks-holds_only x (y ∷ ys) h = (λ e. absurd (h.0 e), lacks-holds_only x ys h.1)

  pub rises_at : (low k : ℕ) (d : X) (ys : List X) → IsTrue (rises_from id_of low ys)
      → k < length ys → low ≤ id_of (get_or ys k d)
  rises_at low k d [] h l = absurd (omega arith)
  rises_at low zero d (y ∷ ys) h l =
      let a = and_left (nat_le low (id_of y)) (rises_from id_of (id_of y + 1) ys) h in grind
      (arith, common_steps, a)
  rises_at low (suc k) d (y ∷ ys) h l =
      let a = and_left (nat_le low (id_of y)) (rises_from id_of (id_of y + 1) ys) h in
      let b = and_right (nat_le low (id_of y)) (rises_from id_of (id_of y + 1) ys) h in
      let r = rises_at (id_of y + 1) k d ys b (omega (arith, l)) in
      grind (arith, common_steps, a, r)

  -- in a rising list an item is the only one of its id
  pub holds_only : (low : ℕ) (x : X) (ys : List X) → IsTrue (rises_from id_of low ys)
      → Contains ys x → HoldsOnly id_of x ys
  holds_only low x [] h c = tt
  holds_only low x (y ∷ ys) h (zero, l, c) =
      let b = and_right (nat_le low (id_of y)) (rises_from id_of (id_of y + 1) ys) h in
      let e : y ≡ x = c in (
        (λ _. e),
        lacks-holds_only x ys
            (subst (λ z. Lacks id_of (id_of z) ys) e
            (rises-lacks (id_of y + 1) (id_of y) ys b (omega arith))),
      )
  holds_only low x (y ∷ ys) h (suc k, m, c) =
      let b = and_right (nat_le low (id_of y)) (rises_from id_of (id_of y + 1) ys) h in
      let l : k < length ys = omega (arith, m) in
      let r : get_or ys k x ≡ x = c in
      let at = rises_at (id_of y + 1) k x ys b l in (
        (λ e. absurd (omega (arith, e, subst (λ z. id_of y + 1 ≤ id_of z) r at))),
        holds_only (id_of y + 1) x ys b (k, l, r),
      )

-- in a list that never falls, a later number is no smaller
never_falls-has : (m n : ℕ) (ms : List ℕ) → IsTrue (never_falls (m ∷ ms))
    → IsTrue (has_id (λ j. j) n ms) → m ≤ n
never_falls-has m n [] s h = cc
never_falls-has m n (x ∷ xs) s h =
    let a : IsTrue (nat_le m x) = and_left (nat_le m x) (never_falls (x ∷ xs)) s in
    let b = and_right (nat_le m x) (never_falls (x ∷ xs)) s in
    elim (x == n) as (λ t. (x == n) ≡ t → IsTrue (if t then true else has_id (λ j. j) n xs) → m ≤ n) [
      | true ↦ λ t g. grind (arith, common_steps, a)
      | false ↦ λ t g. let r = never_falls-has x n xs b g in grind (arith, common_steps, a, r)
    ] refl h

put_first : (n m : ℕ) (ms : List ℕ) → m ≡ n → IsTrue (starts_at m ms) → put_number n ms ≡ m ∷ ms
put_first n m [] e s = grind (arith, common_steps, e)
put_first n m (x ∷ xs) e s = grind (arith, common_steps, e, s)

-- a number taken out and put back leaves a list that never falls
pub put-drop_number : (n : ℕ) (ms : List ℕ) → IsTrue (never_falls ms)
    → IsTrue (has_id (λ j. j) n ms) → put_number n (drop_number n ms) ≡ ms
put-drop_number n [] s h = cc
put-drop_number n (m ∷ ms) s h =
    let b = and_right (starts_at m ms) (never_falls ms) s in
    elim (m == n) as (λ t. (m == n) ≡ t → IsTrue (if t then true else has_id (λ j. j) n ms)
    → put_number n (if t then ms else m ∷ drop_number n ms) ≡ m ∷ ms) [
      | true ↦ λ t g.
          put_first n m ms (grind (arith, common_steps, t))
          (and_left (starts_at m ms) (never_falls ms) s)
      | false ↦ λ t g.
          let r = put-drop_number n ms b g in
          let l = never_falls-has m n ms s g in
          grind (arith, common_steps, r, l)
    ] refl h

module _ {X : Type 0} (p : X → ℕ) where
  pub lacks-not_has : (i : ℕ) (xs : List X) → Lacks p i xs → has_id p i xs ≡ false
  lacks-not_has i [] h = refl
  lacks-not_has i (x ∷ xs) h =
      let r = lacks-not_has i xs h.1 in let n = h.0 in grind (arith, common_steps, r, n)

  pub not_has-lacks : (i : ℕ) (xs : List X) → has_id p i xs ≡ false → Lacks p i xs
  not_has-lacks i [] h = tt
  not_has-lacks i (x ∷ xs) h =
      elim (p x == i) as (λ b. (p x == i) ≡ b → (if b then true else has_id p i xs) ≡ false
      → Lacks p i (x ∷ xs)) [
        | true ↦ λ t g. cc
        | false ↦ λ t g. ((λ e. grind (arith, common_steps, t, e)), not_has-lacks i xs g)
      ] refl h

  -- where i isn't there and j is, they differ
  pub apart : (i j : ℕ) (xs : List X) → Lacks p i xs → IsTrue (has_id p j xs) → j ≢ i
  apart i j [] h t = cc
  apart i j (x ∷ xs) h t =
      elim (p x == j) as (λ b. (p x == j) ≡ b → IsTrue (if b then true else has_id p j xs) → j ≢ i) [
        | true ↦ λ e g m. h.0 (grind (arith, common_steps, e, m))
        | false ↦ λ e g. apart i j xs h.1 g
      ] refl t

  pub has-place : (i : ℕ) (x : X) (xs : List X)
      → has_id p i (with_item p x xs) ≡ (if p x == i then true else has_id p i xs)
  has-place i x [] = refl
  has-place i x (y ∷ ys) =
      let r = has-place i x ys in
      elim (nat_le (p x) (p y)) as (λ b. has_id p i (if b then x ∷ y ∷ ys else y ∷ with_item p x ys)
      ≡ (if p x == i then true else has_id p i (y ∷ ys))) [
        | true ↦ refl
        | false ↦ grind (arith, common_steps, r)
      ]

  pub has-without : (i j : ℕ) (xs : List X) → j ≢ i
      → has_id p j (without_item p i xs) ≡ has_id p j xs
  has-without i j [] n = refl
  has-without i j (x ∷ xs) n =
      let r = has-without i j xs n in
      elim (p x == i) as (λ b. (p x == i) ≡ b
      → has_id p j (if b then without_item p i xs else x ∷ without_item p i xs)
      ≡ has_id p j (x ∷ xs)) [
        | true ↦ λ t. grind (arith, common_steps, r, t, n)
        | false ↦ λ t. grind (arith, common_steps, r)
      ] refl

  pub lacks-without : (i : ℕ) (xs : List X) → Lacks p i (without_item p i xs)
  lacks-without i [] = tt
  lacks-without i (x ∷ xs) =
      elim (p x == i) as (λ b. (p x == i) ≡ b
      → Lacks p i (if b then without_item p i xs else x ∷ without_item p i xs)) [
        | true ↦ λ t. lacks-without i xs
        | false ↦ λ t. ((λ e. grind (arith, common_steps, t, e)), lacks-without i xs)
      ] refl

  pub has-swapped : (i : ℕ) (x : X) (xs : List X) → has_id p i (swapped p x xs) ≡ has_id p i xs
  has-swapped i x [] = refl
  has-swapped i x (y ∷ ys) =
      let r = has-swapped i x ys in
      elim (p y == p x) as (λ b. (p y == p x) ≡ b
      → has_id p i ((if b then x else y) ∷ swapped p x ys) ≡ has_id p i (y ∷ ys)) [
        | true ↦ λ t. grind (arith, common_steps, r, t)
        | false ↦ λ t. grind (arith, common_steps, r)
      ] refl

  -- in a list that rises from an id the ids are no less
  pub has_from : (low i : ℕ) (zs : List X) → IsTrue (rises_from p low zs) → IsTrue (has_id p i zs)
      → low ≤ i
  has_from low i [] s t = cc
  has_from low i (z ∷ zs) s t =
      let a = and_left (nat_le low (p z)) (rises_from p (p z + 1) zs) s in
      let b = and_right (nat_le low (p z)) (rises_from p (p z + 1) zs) s in
      elim (p z == i) as (λ c. (p z == i) ≡ c → IsTrue (if c then true else has_id p i zs)
      → low ≤ i) [
        | true ↦ λ e g. grind (arith, common_steps, a, e)
        | false ↦ λ e g. let r = has_from (p z + 1) i zs b g in grind (arith, common_steps, a, r)
      ] refl t

  -- in a rising list what goes in first stays first
  pub place_first : (x : X) (ys : List X) → IsTrue (rises_from p (p x + 1) ys)
      → with_item p x ys ≡ x ∷ ys
  place_first x [] h = refl
  place_first x (y ∷ ys) h = grind (arith, common_steps, h)

  -- an item taken out and put in again leaves the list
  pub place-without : (low : ℕ) (x : X) (ys : List X) → IsTrue (rises_from p low ys)
      → HoldsOnly p x ys → IsTrue (has_id p (p x) ys) → with_item p x (without_item p (p x) ys) ≡ ys
  place-without low x [] s h t = cc
  place-without low x (y ∷ ys) s h t =
      let a = and_left (nat_le low (p y)) (rises_from p (p y + 1) ys) s in
      let b = and_right (nat_le low (p y)) (rises_from p (p y + 1) ys) s in
      elim (p y == p x) as (λ c. (p y == p x) ≡ c → IsTrue (if c then true else has_id p (p x) ys)
      → with_item p x (if c then without_item p (p x) ys else y ∷ without_item p (p x) ys)
      ≡ y ∷ ys) [
        | true ↦ λ e g.
            let m : p y ≡ p x = grind (arith, common_steps, e) in
            let z : y ≡ x = h.0 m in
            let r : IsTrue (rises_from p (p x + 1) ys) =
            subst (λ n. IsTrue (rises_from p (n + 1) ys)) m b in
            let l : Lacks p (p x) ys = rises-lacks p (p x + 1) (p x) ys r (omega arith) in
            ap (with_item p x) (without-lacks p (p x) ys l) ∙ place_first x ys r
            ∙ ap (λ w. w ∷ ys) (sym z)
        | false ↦ λ e g.
            let r = place-without (p y + 1) x ys b h.1 g in
            let q = has_from (p y + 1) (p x) ys b g in
            grind (arith, common_steps, r, q)
      ] refl t

  pub swapped-lacks : (x : X) (zs : List X) → Lacks p (p x) zs → swapped p x zs ≡ zs
  swapped-lacks x [] h = refl
  swapped-lacks x (z ∷ zs) h = let r = swapped-lacks x zs h.1 in let n =
      h.0 in grind (arith, common_steps, r, n)

  -- to exchange an item is to take it out and put the new one in
  pub swapped_is : (low : ℕ) (x : X) (ys : List X) → IsTrue (rises_from p low ys)
      → IsTrue (has_id p (p x) ys) → swapped p x ys ≡ with_item p x (without_item p (p x) ys)
  swapped_is low x [] s t = cc
  swapped_is low x (y ∷ ys) s t =
      let a = and_left (nat_le low (p y)) (rises_from p (p y + 1) ys) s in
      let b = and_right (nat_le low (p y)) (rises_from p (p y + 1) ys) s in
      elim (p y == p x) as (λ c. (p y == p x) ≡ c → IsTrue (if c then true else has_id p (p x) ys)
      → ((if c then x else y) ∷ swapped p x ys)
      ≡ with_item p x (if c then without_item p (p x) ys else y ∷ without_item p (p x) ys)) [
        | true ↦ λ e g.
            let m : p y ≡ p x = grind (arith, common_steps, e) in
            let r : IsTrue (rises_from p (p x + 1) ys) =
            subst (λ n. IsTrue (rises_from p (n + 1) ys)) m b in
            let l : Lacks p (p x) ys = rises-lacks p (p x + 1) (p x) ys r (omega arith) in
            ap (λ l. x ∷ l) (swapped-lacks x ys l)
            ∙ sym (ap (with_item p x) (without-lacks p (p x) ys l) ∙ place_first x ys r)
        | false ↦ λ e g.
            let r = swapped_is (p y + 1) x ys b g in
            let q = has_from (p y + 1) (p x) ys b g in
            grind (arith, common_steps, r, q)
      ] refl t

  pub contains-has : (x : X) (xs : List X) → Contains xs x → IsTrue (has_id p (p x) xs)
  contains-has x [] c = absurd (omega (arith, c.1))
  contains-has x (y ∷ ys) (zero, l, c) = let e : y ≡ x = c in grind (arith, common_steps, ap p e)
  contains-has x (y ∷ ys) (suc k, l, c) = let r =
      contains-has x ys (k, omega (arith, l), c) in grind (arith, common_steps, r)

  pub length-place : (x : X) (ys : List X) → length (with_item p x ys) ≡ length ys + 1
  length-place x [] = omega arith
  length-place x (y ∷ ys) = let r = length-place x ys in grind (arith, common_steps, r)

  pub length-place_all : (xs ys : List X) → length (place_all p xs ys) ≡ length xs + length ys
  length-place_all [] ys = omega arith
  length-place_all (x ∷ xs) ys = let r = length-place_all xs (with_item p x ys) in let q =
      length-place x ys in omega (arith, r, q)

  pub length-swapped : (x : X) (ys : List X) → length (swapped p x ys) ≡ length ys
  length-swapped x [] = refl
  length-swapped x (y ∷ ys) = let r = length-swapped x ys in grind (arith, common_steps, r)

module _ {X Y : Type 0} (g : X → Y) (q : Y → ℕ) where
  -- an image of the list is put together in the same way
  pub map-place : (x : X) (xs : List X)
      → map g (with_item (λ z. q (g z)) x xs) ≡ with_item q (g x) (map g xs)
  map-place x [] = refl
  map-place x (y ∷ ys) =
      let r = map-place x ys in
      elim (nat_le (q (g x)) (q (g y))) as (λ b.
      map g (if b then x ∷ y ∷ ys else y ∷ with_item (λ z. q (g z)) x ys)
      ≡ (if b then g x ∷ g y ∷ map g ys else g y ∷ with_item q (g x) (map g ys))) [
        | true ↦ refl
        | false ↦ ap (λ l. g y ∷ l) r
      ]

  pub map-place_all : (xs ys : List X)
      → map g (place_all (λ z. q (g z)) xs ys) ≡ place_all q (map g xs) (map g ys)
  map-place_all [] ys = refl
  map-place_all (x ∷ xs) ys = map-place_all xs (with_item (λ z. q (g z)) x ys)
      ∙ ap (place_all q (map g xs)) (map-place x ys)

  pub map-without : (i : ℕ) (xs : List X)
      → map g (without_item (λ z. q (g z)) i xs) ≡ without_item q i (map g xs)
  map-without i [] = refl
  map-without i (x ∷ xs) =
      let r = map-without i xs in
      elim (q (g x) == i) as (λ b.
      map g (if b then without_item (λ z. q (g z)) i xs else x ∷ without_item (λ z. q (g z)) i
      xs) ≡ (if b then without_item q i (map g xs) else g x ∷ without_item q i (map g xs))) [
        | true ↦ r
        | false ↦ ap (λ l. g x ∷ l) r
      ]

  pub lacks-map : (i : ℕ) (xs : List X) → Lacks q i (map g xs) → Lacks (λ z. q (g z)) i xs
  lacks-map i [] h = tt
  lacks-map i (x ∷ xs) h = (h.0, lacks-map i xs h.1)

module _ {X : Type 0} where
  pub all_more : {p q : X → Type 0} → ((x : X) → p x → q x) → (xs : List X) → AllOf p xs
      → AllOf q xs
  all_more more [] h = tt
  all_more more (x ∷ xs) h = (more x h.0, all_more more xs h.1)

  pub all_at : (p : X → Type 0) (x : X) (xs : List X) → AllOf p xs → Contains xs x → p x
  all_at p x [] h c = absurd (omega (arith, c.1))
  all_at p x (y ∷ ys) h (zero, l, c) = let e : y ≡ x = c in subst p e h.0
  all_at p x (y ∷ ys) h (suc k, l, c) = all_at p x ys h.1 (k, omega (arith, l), c)

  pub all-place : (p : X → Type 0) (id : X → ℕ) (x : X) (xs : List X) → p x → AllOf p xs
      → AllOf p (with_item id x xs)
  all-place p id x [] a h = (a, tt)
  all-place p id x (y ∷ ys) a h =
      elim (nat_le (id x) (id y)) as (λ b.
      AllOf p (if b then x ∷ y ∷ ys else y ∷ with_item id x ys)) [
        | true ↦ (a, h)
        | false ↦ (h.0, all-place p id x ys a h.1)
      ]

  -- what is left after an id was taken out has other ids
  pub all-without : (p : X → Type 0) (id : X → ℕ) (i : ℕ) (xs : List X) → AllOf p xs
      → AllOf (λ x. (id x ≢ i) × p x) (without_item id i xs)
  all-without p id i [] h = tt
  all-without p id i (x ∷ xs) h =
      elim (id x == i) as (λ b. (id x == i) ≡ b
      → AllOf (λ x. (id x ≢ i) × p x)
      (if b then without_item id i xs else x ∷ without_item id i xs)) [
        | true ↦ λ t. all-without p id i xs h.1
        | false ↦ λ t. (((λ e. grind (arith, common_steps, t, e)), h.0), all-without p id i xs h.1)
      ] refl
