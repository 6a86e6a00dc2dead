-- What a search in a list finds.
use Rattle.std.proofs.Common.{◌≡◌, ℕ, Bool, true, false, cond, eqb, refl, sym, ◌∙◌, ap, List, []}
use Rattle.std.proofs.Common.{◌∷◌, Some, None, inl, inr}
use Rattle.std.specs.Prelude.{find, ◌==◌, ◌||◌}
use Rattle.std.proofs.lemmas.Bool.Decides.{eqb_tells}
use Rattle.plain_digraph.specs.Lists.{has}

unlike : true ≡ false → ⊥
unlike e = cc

-- the first of a list is listed, and so is what is listed behind it
first_has : (y : ℕ) (ys : List ℕ) → has (y ∷ ys) y ≡ true
first_has y ys =
    elim (eqb_tells y y) [ inl e ↦ ap (λ b. b || has ys y) e.0 | inr e ↦ absurd (e.1 refl) ]

or_true : (b : Bool) → (b || true) ≡ true
or_true true = refl
or_true false = refl

behind_has : (y z : ℕ) (ys : List ℕ) → has ys z ≡ true → has (y ∷ ys) z ≡ true
behind_has y z ys at = ap (λ b. (y == z) || b) at ∙ or_true (y == z)

-- a place that isn't the first is behind it
rest_has : (test : ℕ → Bool) (y x : ℕ) (ys : List ℕ) → has (y ∷ ys) x ≡ true → test x ≡ true
    → test y ≡ false → has ys x ≡ true
rest_has test y x ys at passes fails =
    by_eqb (eqb y x) refl
  where
    by_eqb : (b : Bool) → eqb y x ≡ b → has ys x ≡ true
    by_eqb true same = elim (eqb_tells y x) [
      | inl e ↦ absurd (unlike (sym passes ∙ (ap test (sym e.1) ∙ fails)))
      | inr e ↦ absurd (unlike (sym same ∙ e.0))
    ]
    by_eqb false differ = sym (ap (λ b. b || has ys x) differ) ∙ at

by_test : (test : ℕ → Bool) (y x : ℕ) (ys : List ℕ) (b : Bool) → test y ≡ b
    → (test y ≡ true → y ≡ x) → (test y ≡ false → find test ys ≡ Some x)
    → cond b (Some y) (find test ys) ≡ Some x
by_test test y x ys true is only rest = ap Some (only is)
by_test test y x ys false is only rest = rest is

-- where only one of the list passes, it is found
pub find_only : (test : ℕ → Bool) (xs : List ℕ) (x : ℕ) → has xs x ≡ true → test x ≡ true
    → ((y : ℕ) → has xs y ≡ true → test y ≡ true → y ≡ x) → find test xs ≡ Some x
find_only test [] x at passes only = absurd (unlike (sym at))
find_only test (y ∷ ys) x at passes only =
    by_test test y x ys (test y) refl (only y (first_has y ys))
    (λ fails. find_only test ys x (rest_has test y x ys at passes fails) passes
    (λ z listed. only z (behind_has y z ys listed)))

-- where none of the list passes, none is found
pub find_none : (test : ℕ → Bool) (xs : List ℕ) → ((y : ℕ) → has xs y ≡ true → test y ≡ false)
    → find test xs ≡ None
find_none test [] none = refl
find_none test (y ∷ ys) none =
    rw (none y (first_has y ys)) (find_none test ys (λ z listed. none z (behind_has y z ys listed)))
