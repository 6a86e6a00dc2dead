-- One place of a function or a list changed.
use Rattle.std.proofs.Common.{◌≡◌, ◌≢◌, inl, inr, ℕ, ◌<◌, false, true, eqb, List, length}
use Rattle.std.proofs.Common.{arith}
use Rattle.std.proofs.Math.ListN.{set}
use Rattle.std.proofs.lemmas.List.{get_or-set_same, get_or-set_other}
use Rattle.std.proofs.lemmas.Bool.Decides.{nat_tests, eqb_tells}
use Rattle.plain_certificates.specs.Tables.{at, set_at}

pub self_eqb : (a : ℕ) → eqb a a ≡ true
self_eqb a = grind (arith, nat_tests)

pub apart_eqb : (a b : ℕ) → a ≢ b → eqb a b ≡ false
apart_eqb a b ne = grind (arith, nat_tests)

module _ {A : Type 0} where
  pub set_at-here : (f : ℕ → A) (k : ℕ) (x : A) → set_at f k x k ≡ x
  set_at-here f k x = rw (self_eqb k)

  pub set_at-other : (f : ℕ → A) (k : ℕ) (x : A) (j : ℕ) → j ≢ k → set_at f k x j ≡ f j
  set_at-other f k x j ne = rw (apart_eqb j k ne)

  at-set_each : (d : A) (xs : List A) (k : ℕ) (x : A) (j : ℕ) → k < length xs
      → at d (set xs k x) j ≡ set_at (at d xs) k x j
  at-set_each d xs k x j l = elim (eqb_tells j k) [
    | inl e ↦ rw (e.0, e.1) (get_or-set_same xs k x d l)
    | inr e ↦ rw e.0 (get_or-set_other xs k j x d e.1)
  ]

  -- a list with one place written
  pub at-set : (d : A) (xs : List A) (k : ℕ) (x : A) → k < length xs
      → at d (set xs k x) ≡ set_at (at d xs) k x
  at-set d xs k x l = λ i j. at-set_each d xs k x j l i
