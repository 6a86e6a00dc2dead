-- Even ids for one list and odd ids for another: undirect, residual and split number their arcs so.
use Rattle.std.proofs.Common.{◌≡◌, ℕ, Bool, true, false, cond, eqb, List, [], ◌∷◌, ◌++◌, map, None}
use Rattle.std.proofs.Common.{refl, sym, ◌∙◌, ap, arith}
use Rattle.std.proofs.lemmas.Bool.Decides.{nat_tests}
use Rattle.plain_digraph.specs.Lists.{has, first, rest, after}
use Rattle.plain_views.specs.Shown.{once}
use Rattle.plain_views.specs.Adaptors.{is_even, half, twice, odd, first_both}
use Rattle.plain_views.proofs.Walks.{KeepsApart, has-append, has-map, once-map, once-append}
use Rattle.plain_views.proofs.Walks.{rest-map, rest-append, rest-append_out, has-map_none}

pub twice_apart : KeepsApart twice
twice_apart x y = grind (arith, nat_tests)

pub odd_apart : KeepsApart odd
odd_apart x y = grind (arith, nat_tests)

pub twice_not_odd : (x y : ℕ) → eqb (twice x) (odd y) ≡ false
twice_not_odd x y = grind (arith, nat_tests)

pub odd_not_twice : (x y : ℕ) → eqb (odd x) (twice y) ≡ false
odd_not_twice x y = grind (arith, nat_tests)

pub even_is : (id : ℕ) → is_even id ≡ true → id ≡ twice (half id)
even_is id e = grind (arith, nat_tests)

pub odd_is : (id : ℕ) → is_even id ≡ false → id ≡ odd (half id)
odd_is id e = grind (arith, nat_tests)

-- both lists, the even ids first
abbrev pub both : List ℕ → List ℕ → List ℕ
both evens odds = map twice evens ++ map odd odds

pub has-both : (xs ys : List ℕ) (id : ℕ)
    → has (both xs ys) id ≡ cond (is_even id) (has xs (half id)) (has ys (half id))
has-both xs ys id = by_parity (is_even id) refl
  where
    by_parity : (b : Bool) → is_even id ≡ b
        → has (both xs ys) id ≡ cond b (has xs (half id)) (has ys (half id))
    by_parity true e =
        let is = even_is id e in
        ap (has (both xs ys)) is
        ∙ (has-append (map twice xs) (map odd ys) (twice (half id))
        ∙ rw (
          has-map twice twice_apart xs (half id),
          has-map_none odd (twice (half id)) (λ x. odd_not_twice x (half id)) ys,
        ) (grind arith))
    by_parity false e =
        let is = odd_is id e in
        ap (has (both xs ys)) is
        ∙ (has-append (map twice xs) (map odd ys) (odd (half id))
        ∙ rw (
          has-map odd odd_apart ys (half id),
          has-map_none twice (odd (half id)) (λ x. twice_not_odd x (half id)) xs,
        ) (grind arith))

pub once-both : (xs ys : List ℕ) → once xs ≡ true → once ys ≡ true → once (both xs ys) ≡ true
once-both xs ys o p =
    once-append (map twice xs) (map odd ys) (once-map twice twice_apart xs o)
    (once-map odd odd_apart ys p) (λ a h. apart a (is_even a) refl h)
  where
    apart : (a : ℕ) (b : Bool) → is_even a ≡ b → has (map twice xs) a ≡ true
        → has (map odd ys) a ≡ false
    apart a true e h = ap (has (map odd ys)) (even_is a e)
        ∙ has-map_none odd (twice (half a)) (λ x. odd_not_twice x (half a)) ys
    apart a false e h =
        absurd (let no : true ≡ false = sym h
        ∙ (ap (has (map twice xs)) (odd_is a e)
        ∙ has-map_none twice (odd (half a)) (λ x. twice_not_odd x (half a)) xs) in cc)

-- ---- walks

pub first-both : (xs ys : List ℕ) → first (both xs ys) ≡ first_both (first xs) (first ys)
first-both [] [] = refl
first-both [] (y ∷ ys) = refl
first-both (x ∷ xs) ys = refl

pub after-even : (xs ys : List ℕ) (id : ℕ) → is_even id ≡ true → has xs (half id) ≡ true
    → after (both xs ys) id ≡ first_both (after xs (half id)) (first ys)
after-even xs ys id e h =
    ap (after (both xs ys)) (even_is id e)
    ∙ (ap first (rest-append (map twice xs) (map odd ys) (twice (half id))
    (has-map twice twice_apart xs (half id) ∙ h)
    ∙ ap (λ zs. zs ++ map odd ys) (rest-map twice twice_apart xs (half id)))
    ∙ first-both (rest xs (half id)) ys)

pub after-odd : (xs ys : List ℕ) (id : ℕ) → is_even id ≡ false
    → after (both xs ys) id ≡ first_both None (after ys (half id))
after-odd xs ys id e =
    ap (after (both xs ys)) (odd_is id e)
    ∙ (ap first (rest-append_out (map twice xs) (map odd ys) (odd (half id))
    (has-map_none twice (odd (half id)) (λ x. twice_not_odd x (half id)) xs)
    ∙ rest-map odd odd_apart ys (half id))
    ∙ first-both [] (rest ys (half id)))
