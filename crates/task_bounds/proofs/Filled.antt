-- Lists and functions of which place after place is written.
use Rattle.std.proofs.Common.{◌≡◌, inl, inr, ℕ, ◌+◌, ◌<◌, eqb, cond, ℤ, pos, ◌+ℤ◌, ap, List, length}
use Rattle.std.proofs.Common.{true, false, sym, ◌∙◌, subst, arith}
use Rattle.std.proofs.Math.ListN.{set}
use Rattle.std.proofs.lemmas.Int.{ints}
use Rattle.std.proofs.lemmas.Bool.Decides.{eqb_tells, nat_tests}
use Rattle.plain_certificates.proofs.Tables.{at-set, set_at-here, set_at-other}
use Rattle.plain_certificates.specs.Tables.{at, set_at}

module _ {A : Type 0} (d : A) where
  pub set_here : (xs : List A) (k : ℕ) (x : A) → k < length xs → at d (set xs k x) k ≡ x
  set_here xs k x l = ap (λ f. f k) (at-set d xs k x l) ∙ set_at-here (at d xs) k x

  -- another place is as it was
  pub set_other : (xs : List A) (k j : ℕ) (x : A) → k < length xs → eqb j k ≡ false
      → at d (set xs k x) j ≡ at d xs j
  set_other xs k j x l off =
      ap (λ f. f j) (at-set d xs k x l)
      ∙ set_at-other (at d xs) k x j (λ e. (let q = off in absurd (apart e q)))
    where
      apart : j ≡ k → eqb j k ≡ false → ⊥
      apart e q = grind (arith, nat_tests, e, q)

  -- what holds of each place before one, and of what is written there, holds of one place more
  pub set_more : (P : ℕ → A → Type 0) (xs : List A) (k : ℕ) (x : A) → k < length xs
      → ((j : ℕ) → j < k → P j (at d xs j)) → P k x
      → (j : ℕ) → j < k + 1 → P j (at d (set xs k x) j)
  set_more P xs k x l was here j lj = elim (eqb_tells j k) [
    | inl e ↦
        subst (λ i. P i (at d (set xs k x) i)) (sym e.1)
        (subst (P k) (sym (set_here xs k x l)) here)
    | inr e ↦
        (let off = e.1 in
        subst (P j) (sym (set_other xs k j x l e.0)) (was j (omega (arith, off, lj))))
  ]

-- a number is added at one place
pub added_at : (f : ℕ → ℤ) (a v : ℕ) (x : ℤ)
    → set_at f a (f a +ℤ x) v ≡ f v +ℤ cond (eqb a v) x (pos 0)
added_at f a v x = elim (eqb_tells v a) [
  | inl e ↦
      (let q = e.1 in
      let on : eqb a v ≡ true = grind (arith, nat_tests, q) in
      let same = ap f q in
      rw (e.0, on) (omega (arith, ints, same)))
  | inr e ↦
      (let q = e.1 in
      let off : eqb a v ≡ false = grind (arith, nat_tests, q) in
      rw (e.0, off) (omega (arith, ints)))
]
