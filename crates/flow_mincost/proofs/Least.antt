-- The least of some numbers.
use Rattle.std.proofs.Common.{◌≡◌, inl, inr, ℕ, ◌+◌, ◌<◌, ◌≤◌, sym, subst, arith}
use Rattle.std.proofs.lemmas.Bool.Decides.{eqb_tells}
use Rattle.flow_mincost.specs.Pushing.{IsLeastRoom}

one_more : (f : ℕ → ℕ) (i least : ℕ) → ((j : ℕ) → j < i → least ≤ f j) → least ≤ f i
    → (j : ℕ) → j < i + 1 → least ≤ f j
one_more f i least was here j l = elim (eqb_tells j i) [
  | inl e ↦ subst (λ k. least ≤ f k) (sym e.1) here
  | inr e ↦ (let off = e.1 in was j (omega (arith, off, l)))
]

-- the first number alone
pub least_first : (f : ℕ → ℕ) (all x : ℕ) → 0 < all → x ≡ f 0 → IsLeastRoom f all 1 x
least_first f all x some is = record {
  place = 0;
  within = some;
  is = is;
  least = λ j l. (let e : j ≡ 0 = omega (arith, l) in
      subst (λ k. x ≤ f k) (sym e) (omega (arith, is)));
}

-- the next number is less
pub least_less : (f : ℕ → ℕ) (all i least x : ℕ) → i < all → x ≡ f i → x < least
    → IsLeastRoom f all i least → IsLeastRoom f all (i + 1) x
least_less f all i least x l is less was = record {
  place = i;
  within = l;
  is = is;
  least = one_more f i x (λ j lj. (let h = was.least j lj in omega (arith, h, less)))
      (omega (arith, is));
}

-- or it isn't
pub least_same : (f : ℕ → ℕ) (all i least x : ℕ) → x ≡ f i → least ≤ x
    → IsLeastRoom f all i least → IsLeastRoom f all (i + 1) least
least_same f all i least x is more was = record {
  place = was.place;
  within = was.within;
  is = was.is;
  least = one_more f i least was.least (omega (arith, is, more));
}
