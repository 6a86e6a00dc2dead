-- Round a cycle of arcs that carry something and costs no less than 0 the reduced costs are 0.
use Rattle.std.proofs.Common.{◌≡◌, ◌⊎◌, inl, inr, ℕ, ◌<◌, false, ℤ, pos}
use Rattle.std.proofs.Common.{◌+ℤ◌, ◌*ℤ◌, ◌≤ℤ◌, ◌<ℤ◌, List, [], ◌∷◌, All, length, refl, sym}
use Rattle.std.proofs.Common.{◌∙◌, subst, arith}
use Rattle.std.proofs.lemmas.Int.{ints}
use Rattle.std.proofs.lemmas.Bool.Decides.{eqb_tells}
use Rattle.std.proofs.lemmas.List.Elements.{All-head, All-tail, All-cons, All-nil}
use Rattle.plain_certificates.proofs.Products.{neg-mul, one_times}
use Rattle.plain_certificates.proofs.Sums.{sum_to-not_neg}
use Rattle.plain_certificates.proofs.Walks.{along_reduced}
use Rattle.plain_certificates.specs.Cheapest.{cost_of, reduced_cost}
use Rattle.plain_certificates.specs.Numbered.{Numbered}
use Rattle.plain_certificates.specs.Pushes.{along_trail, by_pace, pushed}
use Rattle.plain_certificates.specs.Rooms.{as_flow}
use Rattle.plain_certificates.specs.Tables.{at, set_at}
use Rattle.plain_certificates.specs.Walks.{IsTrail, along}
use Rattle.pace_search.specs.Paces.{pace_at, paces_at}
use Rattle.flow_mincost.proofs.Onward.{along_of, walk_of}
use Rattle.flow_mincost.specs.Prices.{HasNoGain}
use Rattle.flow_mincost.specs.Rooms.{signed}

-- values of which none is above 0
low_sum : (value : ℕ → ℤ) (ks : List ℕ) → All (λ k. value k ≤ℤ pos 0) ks
    → along value ks ≤ℤ pos 0
low_sum value [] low = omega (arith, ints)
low_sum value (k ∷ ks) low =
    let here = All-head (λ j. value j ≤ℤ pos 0) k ks low in
    let rest = low_sum value ks (All-tail (λ j. value j ≤ℤ pos 0) k ks low) in
    omega (arith, ints, here, rest)

-- and whose sum isn't below 0
even_each : (value : ℕ → ℤ) (ks : List ℕ) → All (λ k. value k ≤ℤ pos 0) ks
    → pos 0 ≤ℤ along value ks → All (λ k. value k ≡ pos 0) ks
even_each value [] low high = All-nil (λ k. value k ≡ pos 0)
even_each value (k ∷ ks) low high =
    let here = All-head (λ j. value j ≤ℤ pos 0) k ks low in
    let less = All-tail (λ j. value j ≤ℤ pos 0) k ks low in
    let rest = low_sum value ks less in
    All-cons (λ j. value j ≡ pos 0) k ks (omega (arith, ints, here, rest, high))
    (even_each value ks less (omega (arith, ints, here, high)))

ones_sum : (ks : List ℕ) → along (λ _. pos 1) ks ≡ pos (length ks)
ones_sum [] = refl
ones_sum (k ∷ ks) = let rest = ones_sum ks in omega (arith, ints, rest)

-- what is sent along paces changes the flow of their arcs alone
pub pushed_or : (g : Numbered) (P : ℕ → Type 0) (step : ℤ) (ks : List ℕ) (flow : ℕ → ℤ)
    → All (λ k. P (pace_at g k).arc) ks → (j : ℕ)
    → (pushed step (paces_at g ks) flow j ≡ flow j) ⊎ P j
pushed_or g P step [] flow all j = inl refl
pushed_or g P step (k ∷ ks) flow all j =
    let p = pace_at g k in
    elim (pushed_or g P step ks (set_at flow p.arc (flow p.arc +ℤ by_pace p step))
    (All-tail (λ i. P (pace_at g i).arc) k ks all) j) [
      | inl same ↦ elim (eqb_tells j p.arc) [
        | inl e ↦ inr (subst P (sym e.1) (All-head (λ i. P (pace_at g i).arc) k ks all))
        | inr e ↦ inl (same ∙ rw e.0)
      ]
      | inr here ↦ inr here
    ]

module _ (g : Numbered) (cost : ℕ → ℤ) (round : List ℕ) (arcs : All (λ k. k < g.arcs) round)
    (node : ℕ) (closed : IsTrail g node (paces_at g round) node) where
  -- the reduced costs round a cycle are its cost
  pub even_round : (pi : ℕ → ℤ) → All (λ k. reduced_cost g cost pi k ≤ℤ pos 0) round
      → pos 0 ≤ℤ along cost round → All (λ k. reduced_cost g cost pi k ≡ pos 0) round
  even_round pi low high =
      let sum = along_reduced g cost pi round node node (walk_of g round node node arcs closed) in
      even_each (reduced_cost g cost pi) round low (omega (arith, ints, sum, high))

  -- a unit on each arc is one for each pace
  pub ones_less : 0 < length round
      → (signed false 1 *ℤ along_trail (λ _. pos 1) (paces_at g round)) <ℤ pos 0
  ones_less some =
      let same = along_of g (λ _. pos 1) round arcs in
      let sum = ones_sum round in
      let a = neg-mul (pos 1) (along_trail (λ _. pos 1) (paces_at g round)) in
      let b = one_times (along_trail (λ _. pos 1) (paces_at g round)) in
      omega (arith, ints, some, same, sum, a, b)

-- prices stay right where arcs with a reduced cost of 0 are changed
module _ (g : Numbered) (cap : ℕ → ℕ) (cost pi : ℕ → ℤ) (old new : List ℕ)
    (changed : (k : ℕ) → k < g.arcs
    → (as_flow (at 0 new) k ≡ as_flow (at 0 old) k) ⊎ (reduced_cost g cost pi k ≡ pos 0)) where
  pub no_gain_kept : HasNoGain g cap cost (at 0 old) pi → HasNoGain g cap cost (at 0 new) pi
  no_gain_kept was = record {
    up = λ k l more. elim (changed k l) [
      | inl e ↦ (let is : at 0 new k ≡ at 0 old k = (let f = e in omega (arith, ints, f)) in
          was.up k l (omega (arith, is, more)))
      | inr e ↦ (let is = e in omega (arith, ints, is))
    ];
    down = λ k l some. elim (changed k l) [
      | inl e ↦ (let is : at 0 new k ≡ at 0 old k = (let f = e in omega (arith, ints, f)) in
          was.down k l (omega (arith, is, some)))
      | inr e ↦ (let is = e in omega (arith, ints, is))
    ];
  }

-- all flow together is at least 0
pub ones_floor : (g : Numbered) (sent : ℕ → ℕ)
    → pos 0 ≤ℤ cost_of g (λ _. pos 1) (as_flow sent)
ones_floor g sent =
    sum_to-not_neg g.arcs (λ k. pos 1 *ℤ pos (sent k))
    (λ k l. (let e = one_times (pos (sent k)) in omega (arith, ints, e)))
