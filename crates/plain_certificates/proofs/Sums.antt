-- Sums over the numbers below one.
use Rattle.std.proofs.Common.{◌≡◌, ◌≢◌, ◌⊎◌, inl, inr, ℕ, ◌<◌, zero, suc, Bool, true, false, ◌||◌}
use Rattle.std.proofs.Common.{cond, eqb, ℤ, pos, ◌+ℤ◌, ◌-ℤ◌, ◌*ℤ◌, neg_ℤ, ◌≤ℤ◌, ◌<ℤ◌, refl, sym, ap}
use Rattle.std.proofs.Common.{◌∙◌, arith}
use Rattle.std.proofs.Math.IntN.{zero-*ℤ, *ℤ-zero, +ℤ_idl}
use Rattle.std.proofs.lemmas.Int.{ints}
use Rattle.std.proofs.lemmas.Bool.Decides.{nat_tests, eqb_tells}
use Rattle.plain_certificates.specs.Numbered.{sum_to, sum_where, any_to}
use Rattle.plain_certificates.proofs.Products.{mul-add, one_times}

pub sum_to-zero : (n : ℕ) (f : ℕ → ℤ) → ((k : ℕ) → k < n → f k ≡ pos 0) → sum_to n f ≡ pos 0
sum_to-zero zero f h = refl
sum_to-zero (suc n) f h = rw (sum_to-zero n f (λ k l. h k (omega arith)), h n (omega arith))

pub sum_to-same : (n : ℕ) (f g : ℕ → ℤ) → ((k : ℕ) → k < n → f k ≡ g k)
    → sum_to n f ≡ sum_to n g
sum_to-same zero f g h = refl
sum_to-same (suc n) f g h =
    rw (sum_to-same n f g (λ k l. h k (omega arith)), h n (omega arith))

pub sum_to-add : (n : ℕ) (f g : ℕ → ℤ)
    → sum_to n (λ k. f k +ℤ g k) ≡ sum_to n f +ℤ sum_to n g
sum_to-add zero f g = refl
sum_to-add (suc n) f g = rw (sum_to-add n f g) (omega (arith, ints))

pub sum_to-sub : (n : ℕ) (f g : ℕ → ℤ)
    → sum_to n (λ k. f k -ℤ g k) ≡ sum_to n f -ℤ sum_to n g
sum_to-sub zero f g = refl
sum_to-sub (suc n) f g = rw (sum_to-sub n f g) (omega (arith, ints))

pub sum_to-neg : (n : ℕ) (f : ℕ → ℤ) → sum_to n (λ k. neg_ℤ (f k)) ≡ neg_ℤ (sum_to n f)
sum_to-neg zero f = refl
sum_to-neg (suc n) f = let e = sum_to-neg n f in omega (arith, ints, e)

pub mul-sum_to : (n : ℕ) (c : ℤ) (f : ℕ → ℤ) → c *ℤ sum_to n f ≡ sum_to n (λ k. c *ℤ f k)
mul-sum_to zero c f = *ℤ-zero c
mul-sum_to (suc n) c f = rw (mul-add c (sum_to n f) (f n), mul-sum_to n c f)

-- two sums in either order
pub sum_to-swap : (n m : ℕ) (f : ℕ → ℕ → ℤ)
    → sum_to n (λ k. sum_to m (λ j. f k j)) ≡ sum_to m (λ j. sum_to n (λ k. f k j))
sum_to-swap zero m f = sym (sum_to-zero m (λ j. pos 0) (λ _ _. refl))
sum_to-swap (suc n) m f =
    rw (sum_to-swap n m f) (sym (sum_to-add m (λ j. sum_to n (λ k. f k j)) (λ j. f n j)))

-- ---- order

pub sum_to-le : (n : ℕ) (f g : ℕ → ℤ) → ((k : ℕ) → k < n → f k ≤ℤ g k)
    → sum_to n f ≤ℤ sum_to n g
sum_to-le zero f g h = omega (arith, ints)
sum_to-le (suc n) f g h =
    let below = sum_to-le n f g (λ k l. h k (omega arith)) in
    let last = h n (omega arith) in
    omega (arith, ints, below, last)

pub sum_to-not_neg : (n : ℕ) (f : ℕ → ℤ) → ((k : ℕ) → k < n → pos 0 ≤ℤ f k)
    → pos 0 ≤ℤ sum_to n f
sum_to-not_neg zero f h = omega (arith, ints)
sum_to-not_neg (suc n) f h =
    let below = sum_to-not_neg n f (λ k l. h k (omega arith)) in
    let last = h n (omega arith) in
    omega (arith, ints, below, last)

-- a part of a sum of which no part is below 0
pub part-le : (n k : ℕ) (f : ℕ → ℤ) → k < n → ((j : ℕ) → j < n → pos 0 ≤ℤ f j)
    → f k ≤ℤ sum_to n f
part-le zero k f l h = absurd (omega (arith, l))
part-le (suc n) k f l h =
    let last = h n (omega arith) in
    elim (eqb_tells k n) [
      | inl e ↦
          (let below = sum_to-not_neg n f (λ j q. h j (omega (arith, q))) in
          rw e.1 (omega (arith, ints, below)))
      | inr e ↦
          (let off = e.1 in
          let below = part-le n k f (omega (arith, l, off)) (λ j q. h j (omega (arith, q))) in
          omega (arith, ints, below, last))
    ]

-- a sum of which one part falls and none rises
pub sum_to-falls : (n i : ℕ) (f g : ℕ → ℤ) → i < n → ((k : ℕ) → k < n → g k ≤ℤ f k)
    → g i <ℤ f i → sum_to n g <ℤ sum_to n f
sum_to-falls zero i f g l h lt = absurd (omega (arith, l))
sum_to-falls (suc n) i f g l h lt =
    elim (eqb_tells i n) [
      | inl e ↦
          (let below = sum_to-le n g f (λ k q. h k (omega (arith, q))) in
          let last : g n <ℤ f n = rw e.1 at lt in
          omega (arith, ints, below, last))
      | inr e ↦
          (let off = e.1 in
          let below = sum_to-falls n i f g (omega (arith, l, off)) (λ k q. h k (omega (arith, q)))
          lt in
          let last = h n (omega arith) in
          omega (arith, ints, below, last))
    ]

-- ---- one part

-- a sum with one part that is not 0
pub sum_to-one : (n k : ℕ) (f : ℕ → ℤ) → k < n → ((j : ℕ) → j < n → j ≢ k → f j ≡ pos 0)
    → sum_to n f ≡ f k
sum_to-one zero k f l h = absurd (omega arith)
sum_to-one (suc n) k f l h =
    elim (eqb_tells n k) [
      | inl e ↦
          rw (sum_to-zero n f (λ j q. h j (omega arith) (omega (arith, e.1))), e.1) (+ℤ_idl (f k))
      | inr e ↦
          rw (
            sum_to-one n k f (omega (arith, e.1)) (λ j q. h j (omega arith)),
            h n (omega arith) e.1,
          )
          (omega (arith, ints))
    ]

-- a weighed sum with one part
pub sum_to-part : (n k : ℕ) (w : ℕ → ℤ) (x : ℤ) → k < n
    → sum_to n (λ v. w v *ℤ cond (eqb k v) x (pos 0)) ≡ w k *ℤ x
sum_to-part n k w x l =
    sum_to-one n k (λ v. w v *ℤ cond (eqb k v) x (pos 0)) l
    (λ v q ne. (let e : eqb k v ≡ false = grind (arith, nat_tests) in rw (e, *ℤ-zero (w v))))
    ∙ (let e : eqb k k ≡ true = grind (arith, nat_tests) in rw e)

-- ---- where a number is chosen

-- 1 where it is chosen and 0 elsewhere
abbrev pub mark : (ℕ → Bool) → ℕ → ℤ
mark chosen k = cond (chosen k) (pos 1) (pos 0)

pub marked : (b : Bool) (y : ℤ) → cond b (pos 1) (pos 0) *ℤ y ≡ cond b y (pos 0)
marked true y = one_times y
marked false y = zero-*ℤ y

-- a sum where numbers are chosen is one that is weighed by the mark
pub weighed_by_mark : (n : ℕ) (chosen : ℕ → Bool) (f : ℕ → ℤ)
    → sum_to n (λ k. mark chosen k *ℤ f k) ≡ sum_where n chosen f
weighed_by_mark n chosen f =
    sum_to-same n (λ k. mark chosen k *ℤ f k) (λ k. cond (chosen k) (f k) (pos 0))
    (λ k _. marked (chosen k) (f k))

cond-same : (b : Bool) (x y : ℤ) → (b ≡ true → x ≡ y) → cond b x (pos 0) ≡ cond b y (pos 0)
cond-same true x y h = h refl
cond-same false x y h = refl

cond-le : (b : Bool) (x y : ℤ) → (b ≡ true → x ≤ℤ y) → cond b x (pos 0) ≤ℤ cond b y (pos 0)
cond-le true x y h = h refl
cond-le false x y h = omega (arith, ints)

pub sum_where-same : (n : ℕ) (chosen : ℕ → Bool) (f g : ℕ → ℤ)
    → ((k : ℕ) → k < n → chosen k ≡ true → f k ≡ g k) → sum_where n chosen f ≡ sum_where n chosen g
sum_where-same n chosen f g h =
    sum_to-same n (λ k. cond (chosen k) (f k) (pos 0)) (λ k. cond (chosen k) (g k) (pos 0))
    (λ k l. cond-same (chosen k) (f k) (g k) (h k l))

pub sum_where-le : (n : ℕ) (chosen : ℕ → Bool) (f g : ℕ → ℤ)
    → ((k : ℕ) → k < n → chosen k ≡ true → f k ≤ℤ g k)
    → sum_where n chosen f ≤ℤ sum_where n chosen g
sum_where-le n chosen f g h =
    sum_to-le n (λ k. cond (chosen k) (f k) (pos 0)) (λ k. cond (chosen k) (g k) (pos 0))
    (λ k l. cond-le (chosen k) (f k) (g k) (h k l))

cond-not_neg : (b : Bool) (x : ℤ) → (b ≡ true → pos 0 ≤ℤ x) → pos 0 ≤ℤ cond b x (pos 0)
cond-not_neg true x h = h refl
cond-not_neg false x h = omega (arith, ints)

pub sum_where-not_neg : (n : ℕ) (chosen : ℕ → Bool) (f : ℕ → ℤ)
    → ((k : ℕ) → k < n → chosen k ≡ true → pos 0 ≤ℤ f k) → pos 0 ≤ℤ sum_where n chosen f
sum_where-not_neg n chosen f h =
    sum_to-not_neg n (λ k. cond (chosen k) (f k) (pos 0))
    (λ k l. cond-not_neg (chosen k) (f k) (h k l))

-- a sum of which one number alone is chosen and not 0
pub sum_where-one : (n k : ℕ) (chosen : ℕ → Bool) (f : ℕ → ℤ) → k < n → chosen k ≡ true
    → ((j : ℕ) → j < n → j ≢ k → chosen j ≡ true → f j ≡ pos 0) → sum_where n chosen f ≡ f k
sum_where-one n k chosen f l on off =
    sum_to-one n k (λ j. cond (chosen j) (f j) (pos 0)) l
    (λ j q ne. cond-zero (chosen j) (f j) (off j q ne))
    ∙ rw on
  where
    cond-zero : (b : Bool) (x : ℤ) → (b ≡ true → x ≡ pos 0) → cond b x (pos 0) ≡ pos 0
    cond-zero true x h = h refl
    cond-zero false x h = refl

-- ---- whether one is chosen

or-right : (a b : Bool) → b ≡ true → (a || b) ≡ true
or-right true b h = refl
or-right false b h = h

or-left : (a b : Bool) → a ≡ true → (a || b) ≡ true
or-left true b h = refl
or-left false b h = cc

pub any_to-from : (n k : ℕ) (chosen : ℕ → Bool) → k < n → chosen k ≡ true → any_to n chosen ≡ true
any_to-from zero k chosen l h = absurd (omega (arith, l))
any_to-from (suc n) k chosen l h =
    elim (eqb_tells k n) [
      | inl e ↦ or-right (any_to n chosen) (chosen n) (sym (ap chosen e.1) ∙ h)
      | inr e ↦
          (let off = e.1 in
          or-left (any_to n chosen) (chosen n) (any_to-from n k chosen (omega (arith, l, off)) h))
    ]

-- the number that is chosen
pub any_to-found : (n : ℕ) (chosen : ℕ → Bool) → any_to n chosen ≡ true
    → (k : ℕ) × (k < n) × (chosen k ≡ true)
any_to-found zero chosen h = absurd cc
any_to-found (suc n) chosen h = elim (or-cases (any_to n chosen) (chosen n) h) [
  | inl e ↦ (let found = any_to-found n chosen e in (found.0, omega (arith, found.1), found.2))
  | inr e ↦ (n, omega arith, e)
]
  where
    or-cases : (a b : Bool) → (a || b) ≡ true → (a ≡ true) ⊎ (b ≡ true)
    or-cases true b h = inl refl
    or-cases false b h = inr h
