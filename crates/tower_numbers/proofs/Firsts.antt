-- The first item of a list that passes a test, and the place of a number, by the first place that
-- is found.
use Rattle.std.proofs.Common.{◌≡◌, ℕ, zero, suc, ◌+◌, ◌<◌, Bool, true, false, not, cond, List, []}
use Rattle.std.proofs.Common.{◌∷◌, length, map, sym, ap, ◌∙◌, refl, subst, arith, Option, None}
use Rattle.std.proofs.Common.{Some}
use Rattle.std.proofs.Common.{ℤ, pos}
use Rattle.std.specs.Prelude.{find, option_map, unwrap_or, nat_lt, position}
use Rattle.std.specs.List.{position_or_len}
use Rattle.std.proofs.Math.ListN.{get_or-map}
use Rattle.std.proofs.lemmas.Bool.{true≢false, lt-ltb}
use Rattle.std.proofs.lemmas.List.{get_or_default, length-map}
use Rattle.plain_certificates.specs.Tables.{at}
use Rattle.view_numbers.specs.Breaches.{IsFirst}

module _ {A : Type 0} (d : A) (test : A → Bool) where
  step : (x : A) (xs : List A) (breaks : ℕ → Bool) (b : Bool) → breaks 0 ≡ b
      → ((r : Option ℕ) → IsFirst (length xs) (λ k. breaks (suc k)) r
      → find test xs ≡ option_map (at d xs) r)
      → (r : Option ℕ) → IsFirst (length (x ∷ xs)) breaks r
      → cond b (Some x) (find test xs) ≡ option_map (at d (x ∷ xs)) r
  step x xs breaks true is rest None first =
      absurd (true≢false (sym is ∙ first 0 (omega arith)))
  step x xs breaks true is rest (Some zero) first = refl
  step x xs breaks true is rest (Some (suc k)) first =
      absurd (true≢false (sym is ∙ first.2 0 (omega arith)))
  step x xs breaks false is rest None first =
      rest None (λ k below. first (suc k) (omega (arith, below)))
  step x xs breaks false is rest (Some zero) first = absurd (true≢false (sym first.1 ∙ is))
  step x xs breaks false is rest (Some (suc k)) first =
      let within = first.0 in
      rest (Some k) (
        omega (arith, within),
        first.1,
        λ j below. first.2 (suc j) (omega (arith, below)),
      )

  -- what a list finds stands at the first place that breaks the rule
  pub first_found : (xs : List A) (breaks : ℕ → Bool)
      → ((k : ℕ) → k < length xs → breaks k ≡ test (at d xs k))
      → (r : Option ℕ) → IsFirst (length xs) breaks r → find test xs ≡ option_map (at d xs) r
  first_found [] breaks so None first = refl
  first_found [] breaks so (Some k) first =
      let within = first.0 in absurd (omega (arith, within))
  first_found (x ∷ xs) breaks so r first =
      step x xs breaks (test x) (so 0 (omega arith))
      (first_found xs (λ k. breaks (suc k)) (λ k below. so (suc k) (omega (arith, below)))) r first

module _ {A : Type 0} (d : A) (test : A → Bool) where
  place_step : (y : A) (ys : List A) (b : Bool) → test y ≡ b
      → ((r : Option ℕ) → IsFirst (length ys) (λ k. test (at d ys k)) r
      → position_or_len test ys ≡ unwrap_or r (length ys))
      → (r : Option ℕ) → IsFirst (suc (length ys)) (λ k. test (at d (y ∷ ys) k)) r
      → cond (not b) (1 + position_or_len test ys) 0 ≡ unwrap_or r (suc (length ys))
  place_step y ys true is rest None first =
      absurd (true≢false (sym is ∙ first 0 (omega arith)))
  place_step y ys true is rest (Some zero) first = refl
  place_step y ys true is rest (Some (suc k)) first =
      absurd (true≢false (sym is ∙ first.2 0 (omega arith)))
  place_step y ys false is rest None first =
      let later = rest None (λ k below. first (suc k) (omega (arith, below))) in
      omega (arith, later)
  place_step y ys false is rest (Some zero) first = absurd (true≢false (sym first.1 ∙ is))
  place_step y ys false is rest (Some (suc k)) first =
      let within = first.0 in
      let later = rest (Some k) (
        omega (arith, within),
        first.1,
        λ j below. first.2 (suc j) (omega (arith, below)),
      ) in
      omega (arith, later)

  -- the place at which a list passes is the first that does, and the length where none does
  pub place_found : (xs : List A) (r : Option ℕ)
      → IsFirst (length xs) (λ k. test (at d xs k)) r
      → position_or_len test xs ≡ unwrap_or r (length xs)
  place_found [] None first = refl
  place_found [] (Some k) first = let within = first.0 in absurd (omega (arith, within))
  place_found (y ∷ ys) r first = place_step y ys (test y) refl (place_found ys) r first

  -- so a position is found
  pub position_found : (xs : List A) (k : ℕ)
      → IsFirst (length xs) (λ k. test (at d xs k)) (Some k) → position test xs ≡ Some k
  position_found xs k first =
      let place = place_found xs (Some k) first in
      (λ i. cond (nat_lt (place i) (length xs)) (Some (place i)) None)
      ∙ ap (λ b. cond b (Some k) None) (lt-ltb k (length xs) first.0)

-- a value of each item of a list, by its place
pub at_mapped : {A : Type 0} (d : A) (f : A → ℤ) (xs : List A) (k : ℕ) → k < length xs
    → at (pos 0) (map f xs) k ≡ f (at d xs k)
at_mapped d f xs k below =
    let size = length-map xs f in
    get_or_default (map f xs) k (pos 0) (f d) (omega (arith, below, size)) ∙ get_or-map f xs k d

-- the first item whose value breaks a rule
pub value_found : {A : Type 0} (d : A) (f : A → ℤ) (rule : ℤ → Bool) (xs : List A) (r : Option ℕ)
    → IsFirst (length (map f xs)) (λ k. rule (at (pos 0) (map f xs) k)) r
    → find (λ x. rule (f x)) xs ≡ option_map (at d xs) r
value_found d f rule xs r first =
    first_found d (λ x. rule (f x)) xs (λ k. rule (at (pos 0) (map f xs) k))
    (λ k below. ap rule (at_mapped d f xs k below)) r
    (subst (λ n. IsFirst n (λ k. rule (at (pos 0) (map f xs) k)) r) (length-map xs f) first)
