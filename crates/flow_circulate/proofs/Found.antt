-- What the first number above 0 says of a list.
use Rattle.std.proofs.Common.{◌≡◌, ℕ, ◌+◌, ◌<◌, ◌≤◌, List, length, Option, None, Some, refl}
use Rattle.std.proofs.Common.{subst, arith}
use Rattle.std.specs.Prelude.{MatchOption}
use Rattle.plain_certificates.specs.Tables.{at}

-- from a place on all are 0
abbrev pub NoneFrom : ℕ → List ℕ → Type 0
NoneFrom begin xs = (k : ℕ) → begin ≤ k → k < length xs → at 0 xs k ≡ 0

-- one is above 0, so far behind the place
abbrev pub SomeFrom : ℕ → List ℕ → ℕ → Type 0
SomeFrom begin xs v = (begin + v < length xs) × (0 < at 0 xs (begin + v))

none_is : (found : Option ℕ) → ((v : ℕ) → found ≡ Some v → ⊥) → found ≡ None
none_is None never = refl
none_is (Some v) never = absurd (never v refl)

module _ (n : ℕ) (xs ys : List ℕ) (same : ys ≡ xs) (all : length xs ≡ n) (found : Option ℕ)
    (match : MatchOption found (NoneFrom 0 ys) (SomeFrom 0 ys)) where
  pub some_found : (v : ℕ) → found ≡ Some v → (v < n) × (0 < at 0 xs v)
  some_found v is =
      let shown : SomeFrom 0 xs v =
      subst (λ zs. SomeFrom 0 zs v) same
      (subst (λ o. MatchOption o (NoneFrom 0 ys) (SomeFrom 0 ys)) is match) in
      let inside = shown.0 in
      let e : 0 + v ≡ v = omega arith in
      (omega (arith, inside, all), subst (λ j. 0 < at 0 xs j) e shown.1)

  pub none_found : ((v : ℕ) → found ≡ Some v → ⊥) → (v : ℕ) → v < n → at 0 xs v ≡ 0
  none_found never v l =
      let shown : NoneFrom 0 xs =
      subst (λ zs. NoneFrom 0 zs) same
      (subst (λ o. MatchOption o (NoneFrom 0 ys) (SomeFrom 0 ys)) (none_is found never) match) in
      shown v (omega arith) (omega (arith, l, all))
