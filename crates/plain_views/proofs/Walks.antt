-- Walks along a list of ids in which none stands twice, and walks that pass over some of them.
use Rattle.std.proofs.Common.{◌≡◌, ℕ, ◌<◌, Bool, true, false, ◌||◌, ◌&&◌, eqb, List, [], ◌∷◌, ◌++◌}
use Rattle.std.proofs.Common.{map, filter, length, Option, Some, None, refl, arith}
use Rattle.std.proofs.lemmas.Bool.Decides.{nat_tests}
use Rattle.plain_digraph.specs.Lists.{has, first, rest, after, onward, ahead}
use Rattle.plain_views.specs.Shown.{once}

pub eqb_same : (x : ℕ) → eqb x x ≡ true
eqb_same x = grind (arith, nat_tests)

pub and_left : (a b : Bool) → (a && b) ≡ true → a ≡ true
and_left a b h = grind arith

pub and_right : (a b : Bool) → (a && b) ≡ true → b ≡ true
and_right a b h = grind arith

pub has-self : (x : ℕ) (xs : List ℕ) → has (x ∷ xs) x ≡ true
has-self x xs = rw (eqb_same x)

pub once-head : (x : ℕ) (xs : List ℕ) → once (x ∷ xs) ≡ true → has xs x ≡ false
once-head x xs h = grind arith

pub once-tail : (x : ℕ) (xs : List ℕ) → once (x ∷ xs) ≡ true → once xs ≡ true
once-tail x xs h = grind arith

pub has-not_same : (xs : List ℕ) (x y : ℕ) → has xs x ≡ false → has xs y ≡ true → eqb x y ≡ false
has-not_same xs x y h g = grind (arith, nat_tests)

pub has-append : (xs ys : List ℕ) (a : ℕ) → has (xs ++ ys) a ≡ (has xs a || has ys a)
has-append [] ys a = refl
has-append (x ∷ xs) ys a = grind (arith, has-append xs ys a)

-- ---- what follows

pub onward-rest : (xs : List ℕ) (a : ℕ) → has xs a ≡ true → onward xs a ≡ a ∷ rest xs a
onward-rest [] a h = cc
onward-rest (x ∷ xs) a h = grind (arith, nat_tests, onward-rest xs a)

pub has-rest : (xs : List ℕ) (a b : ℕ) → has (rest xs a) b ≡ true → has xs b ≡ true
has-rest [] a b h = h
has-rest (x ∷ xs) a b h = grind (arith, nat_tests, has-rest xs a b)

pub has-first : (xs : List ℕ) (b : ℕ) → first xs ≡ Some b → has xs b ≡ true
has-first [] b h = cc
has-first (x ∷ xs) b h = grind (arith, eqb_same x)

pub has-after : (xs : List ℕ) (a b : ℕ) → after xs a ≡ Some b → has xs b ≡ true
has-after xs a b h = has-rest xs a b (has-first (rest xs a) b h)

pub ahead-first : (xs : List ℕ) → ahead xs (first xs) ≡ xs
ahead-first [] = refl
ahead-first (x ∷ xs) = rw (eqb_same x)

ahead-cons : (x : ℕ) (xs ys : List ℕ) → has xs x ≡ false
    → ((b : ℕ) → has ys b ≡ true → has xs b ≡ true)
    → ahead (x ∷ xs) (first ys) ≡ ahead xs (first ys)
ahead-cons x xs [] h w = refl
ahead-cons x xs (y ∷ ys) h w = let e : eqb x y ≡ false =
    has-not_same xs x y h (w y (has-self y ys)) in rw e

pub ahead-after : (xs : List ℕ) (a : ℕ) → once xs ≡ true → ahead xs (after xs a) ≡ rest xs a
ahead-after [] a o = refl
ahead-after (x ∷ xs) a o =
    let h = once-head x xs o in
    let e = ahead-cons x xs xs h (λ _ q. q) in
    let f = ahead-cons x xs (rest xs a) h (has-rest xs a) in
    let g = ahead-after xs a (once-tail x xs o) in
    grind (arith, nat_tests, e, f, g, ahead-first xs)

pub rest-append : (xs ys : List ℕ) (a : ℕ) → has xs a ≡ true → rest (xs ++ ys) a ≡ rest xs a ++ ys
rest-append [] ys a h = cc
rest-append (x ∷ xs) ys a h = grind (arith, rest-append xs ys a)

pub rest-append_out : (xs ys : List ℕ) (a : ℕ) → has xs a ≡ false → rest (xs ++ ys) a ≡ rest ys a
rest-append_out [] ys a h = refl
rest-append_out (x ∷ xs) ys a h = grind (arith, rest-append_out xs ys a)

-- ---- passing over

pub has-filter : (k : ℕ → Bool) (xs : List ℕ) (a : ℕ) → has (filter k xs) a ≡ (has xs a && k a)
has-filter k [] a = refl
has-filter k (x ∷ xs) a = grind (arith, nat_tests, has-filter k xs a)

pub once-filter : (k : ℕ → Bool) (xs : List ℕ) → once xs ≡ true → once (filter k xs) ≡ true
once-filter k [] o = refl
once-filter k (x ∷ xs) o = grind (arith, has-filter k xs x, once-filter k xs (once-tail x xs o))

pub rest-filter : (k : ℕ → Bool) (xs : List ℕ) (a : ℕ) → k a ≡ true
    → rest (filter k xs) a ≡ filter k (rest xs a)
rest-filter k [] a h = refl
rest-filter k (x ∷ xs) a h = grind (arith, nat_tests, rest-filter k xs a h)

-- one turn of a walk to the first id that is kept, from one place to the next: the walk stops
-- there, or else it has the same to find and less ahead
pub record Turn (k : ℕ → Bool) (xs : List ℕ) (at : ℕ) (next : Option ℕ) : Type 0 where
  pub stop : k at ≡ true → first (filter k (ahead xs (Some at))) ≡ Some at
  pub go : k at ≡ false → first (filter k (ahead xs next)) ≡ first (filter k (ahead xs (Some at)))
  pub less : length (ahead xs next) < length (ahead xs (Some at))

pub turn : (k : ℕ → Bool) (xs : List ℕ) (at : ℕ) (next : Option ℕ) → once xs ≡ true
    → has xs at ≡ true → next ≡ after xs at → Turn k xs at next
turn k xs at next o h is = rw is (record {
  stop = λ t. rw (onward-rest xs at h, t);
  go = λ f. rw (ahead-after xs at o, onward-rest xs at h, f);
  less = rw (ahead-after xs at o, onward-rest xs at h) (omega arith);
})

-- ---- other ids

-- ids go over to others, and no two become one
abbrev pub KeepsApart : (ℕ → ℕ) → Type 0
KeepsApart g = (x y : ℕ) → eqb (g x) (g y) ≡ eqb x y

pub has-map : (g : ℕ → ℕ) → KeepsApart g → (xs : List ℕ) (a : ℕ) → has (map g xs) (g a) ≡ has xs a
has-map g apart [] a = refl
has-map g apart (x ∷ xs) a = rw (apart x a, has-map g apart xs a)

pub once-map : (g : ℕ → ℕ) → KeepsApart g → (xs : List ℕ) → once xs ≡ true → once (map g xs) ≡ true
once-map g apart [] o = refl
once-map g apart (x ∷ xs) o = grind (arith, has-map g apart xs x, once-map g apart xs)

pub rest-map : (g : ℕ → ℕ) → KeepsApart g → (xs : List ℕ) (a : ℕ)
    → rest (map g xs) (g a) ≡ map g (rest xs a)
rest-map g apart [] a = refl
rest-map g apart (x ∷ xs) a = grind (arith, apart x a, rest-map g apart xs a)

-- an id that none becomes
pub has-map_none : (g : ℕ → ℕ) (a : ℕ) → ((x : ℕ) → eqb (g x) a ≡ false) → (xs : List ℕ)
    → has (map g xs) a ≡ false
has-map_none g a none [] = refl
has-map_none g a none (x ∷ xs) = rw (none x, has-map_none g a none xs)

-- lists that have no id in common
pub once-append : (xs ys : List ℕ) → once xs ≡ true → once ys ≡ true
    → ((a : ℕ) → has xs a ≡ true → has ys a ≡ false) → once (xs ++ ys) ≡ true
once-append [] ys o p apart = p
once-append (x ∷ xs) ys o p apart =
    grind (
      arith,
      has-append xs ys x,
      apart x (has-self x xs),
      once-append xs ys (once-tail x xs o) p (λ a h. apart a (grind (arith, h))),
    )

pub first-map : (g : ℕ → ℕ) (xs : List ℕ)
    → first (map g xs) ≡ elim (first xs) [ Some x ↦ Some (g x) | None ↦ None ]
first-map g [] = refl
first-map g (x ∷ xs) = refl
