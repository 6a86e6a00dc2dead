-- The numbers that pass a test, one by one.
use Rattle.std.proofs.Common.{◌≡◌, ℕ, ◌+◌, ◌<◌, ◌≤◌, Bool, true, false, cond, List, [], ◌∷◌, ◌++◌}
use Rattle.std.proofs.Common.{filter, All, sym, ap, ◌∙◌, subst, arith}
use Rattle.std.specs.List.{range_with_len}
use Rattle.std.proofs.lemmas.List.{append-nil, map-id}
use Rattle.std.proofs.lemmas.List.Elements.{All-push}
use Rattle.std.proofs.lemmas.List.FromFn.{filter_of_map_range_with_len_more}

-- one number more is looked at
picked : (p : ℕ → Bool) (k : ℕ) → filter p (range_with_len 0 (k + 1))
    ≡ filter p (range_with_len 0 k) ++ cond (p k) (k ∷ []) []
picked p k =
    ap (filter p) (sym (map-id (range_with_len 0 (k + 1))))
    ∙ (filter_of_map_range_with_len_more p (λ j. j) 0 k k (omega arith)
    ∙ ap (λ xs. filter p xs ++ cond (p k) (k ∷ []) []) (map-id (range_with_len 0 k)))

-- of the first so many numbers those that pass, all of which are below a count
pub record ArePicked (test : ℕ → Bool) (count k : ℕ) (numbers : List ℕ) : Type 0 where
  pub inside : k ≤ count
  pub listed : numbers ≡ filter test (range_with_len 0 k)
  pub below : All (λ j. j < count) numbers

-- one more passes
pub picked_on : (test : ℕ → Bool) (count k : ℕ) (numbers more : List ℕ)
    → ArePicked test count k numbers → k < count → test k ≡ true → more ≡ numbers ++ k ∷ []
    → ArePicked test count (k + 1) more
picked_on test count k numbers more was inside on is = record {
  inside = omega (arith, inside);
  listed = is ∙ ap (λ ys. ys ++ k ∷ []) was.listed
      ∙ sym (picked test k
      ∙ ap (λ b. filter test (range_with_len 0 k) ++ cond b (k ∷ []) []) on);
  below = subst (All (λ j. j < count)) (sym is)
      (All-push (λ j. j < count) numbers k was.below inside);
}

-- or it doesn't
pub picked_off : (test : ℕ → Bool) (count k : ℕ) (numbers : List ℕ)
    → ArePicked test count k numbers → k < count → test k ≡ false
    → ArePicked test count (k + 1) numbers
picked_off test count k numbers was inside off = record {
  inside = omega (arith, inside);
  listed = was.listed
      ∙ sym (picked test k
      ∙ (ap (λ b. filter test (range_with_len 0 k) ++ cond b (k ∷ []) []) off
      ∙ append-nil (filter test (range_with_len 0 k))));
  below = was.below;
}
