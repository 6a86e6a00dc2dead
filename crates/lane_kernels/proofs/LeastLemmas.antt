-- The first least value past places whose values aren't below it.
use Rattle.std.proofs.Common.{◌≡◌, ◌≢◌, ℕ, ◌+◌, ℤ, ◌≤ℤ◌, ◌<ℤ◌, Bool, true, sym, subst, arith}
use Rattle.std.proofs.Common.{⊎_elim}
use Rattle.std.proofs.lemmas.Bool.{cases_eq}
use Rattle.std.proofs.lemmas.Int.{ints}
use Rattle.lane_kernels.specs.Least.{IsFirstLeast}

module _ (value : ℕ → ℤ) (counts : ℕ → Bool) (place : ℕ) (least : ℤ) where
  pub kept_least : (n m : ℕ) → m ≡ n + 1 → IsFirstLeast value counts n place least
      → least ≤ℤ value n → IsFirstLeast value counts m place least
  kept_least n m e h above = record {
    within = let w = h.within in omega (arith, w, e);
    counted = h.counted;
    has = h.has;
    is_least = λ k l a. ⊎_elim
        (λ (q : k ≡ n). subst (λ i. least ≤ℤ value i) (sym q) above)
        (λ (q : k ≢ n). h.is_least k (omega (arith, l, q, e)) a)
        (cases_eq k n);
    first = h.first;
  }

  -- a place whose value is below the least
  pub new_least : (n m : ℕ) (lower : ℤ) → m ≡ n + 1 → IsFirstLeast value counts n place least
      → counts n ≡ true → value n ≡ lower → lower <ℤ least → IsFirstLeast value counts m n lower
  new_least n m lower e h live is below = record {
    within = omega (arith, e);
    counted = live;
    has = is;
    is_least = λ k l a. ⊎_elim
        (λ (q : k ≡ n). subst (λ i. lower ≤ℤ value i) (sym q) (omega (arith, ints, is)))
        (λ (q : k ≢ n).
        let u = h.is_least k (omega (arith, l, q, e)) a in
        omega (arith, ints, u, below))
        (cases_eq k n);
    first = λ k l a q.
        let u = h.is_least k l a in
        omega (arith, ints, u, below, q);
  }

  pub kept_four : (n : ℕ) → IsFirstLeast value counts n place least
      → (least ≤ℤ value n) × (least ≤ℤ value (n + 1)) × (least ≤ℤ value (n + 2))
      × (least ≤ℤ value (n + 3))
      → IsFirstLeast value counts (n + 4) place least
  kept_four n h above =
      kept_least (n + 3) (n + 4) (omega arith)
      (kept_least (n + 2) (n + 3) (omega arith)
      (kept_least (n + 1) (n + 2) (omega arith)
      (kept_least n (n + 1) (omega arith) h above.0) above.1) above.2) above.3
