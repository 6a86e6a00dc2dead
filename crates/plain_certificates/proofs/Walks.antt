-- Walks put together and taken apart, rounds that are turned, and sums along them.
use Rattle.std.proofs.Common.{◌≡◌, ℕ, ◌<◌, ℤ, ◌+ℤ◌, ◌-ℤ◌, List, [], ◌∷◌, ◌++◌, length, refl}
use Rattle.std.proofs.Common.{ap, arith}
use Rattle.std.proofs.lemmas.Int.{ints}
use Rattle.plain_certificates.specs.Numbered.{Numbered}
use Rattle.plain_certificates.specs.Walks.{IsWalk, along, start_of}
use Rattle.plain_certificates.specs.Cheapest.{reduced_cost}

pub walk-append : (g : Numbered) (u v w : ℕ) (xs ys : List ℕ) → IsWalk g u xs v → IsWalk g v ys w
    → IsWalk g u (xs ++ ys) w
walk-append g u v w [] ys a b = rw a b
walk-append g u v w (x ∷ xs) ys a b = (a.0, a.1, walk-append g (g.to x) v w xs ys a.2 b)

pub along-append : (value : ℕ → ℤ) (xs ys : List ℕ)
    → along value (xs ++ ys) ≡ along value xs +ℤ along value ys
along-append value [] ys = omega (arith, ints)
along-append value (x ∷ xs) ys =
    let rest = along-append value xs ys in
    omega (arith, ints, rest)

-- the node between the two parts of a walk
pub walk-parts : (g : Numbered) (u w : ℕ) (xs ys : List ℕ) → IsWalk g u (xs ++ ys) w
    → (v : ℕ) × IsWalk g u xs v × IsWalk g v ys w
walk-parts g u w [] ys walk = (u, refl, walk)
walk-parts g u w (x ∷ xs) ys walk =
    let rest = walk-parts g (g.to x) w xs ys walk.2 in
    (rest.0, (walk.0, walk.1, rest.1), rest.2)

-- a walk of one arc or more begins where it starts
pub walk_starts : (g : Numbered) (u v : ℕ) (xs : List ℕ) → 0 < length xs → IsWalk g u xs v
    → start_of g xs ≡ u
walk_starts g u v [] some walk = absurd (omega (arith, some))
walk_starts g u v (x ∷ xs) some walk = walk.1

-- a round may begin at any of its arcs
pub round_turned : (g : Numbered) (u : ℕ) (xs ys : List ℕ) → IsWalk g u (xs ++ ys) u
    → (v : ℕ) × IsWalk g v (ys ++ xs) v
round_turned g u xs ys round =
    let parts = walk-parts g u u xs ys round in
    (parts.0, walk-append g parts.0 u parts.0 ys xs parts.2 parts.1)

pub along_turned : (value : ℕ → ℤ) (xs ys : List ℕ)
    → along value (ys ++ xs) ≡ along value (xs ++ ys)
along_turned value xs ys =
    let a = along-append value xs ys in
    let b = along-append value ys xs in
    omega (arith, ints, a, b)

-- along a walk the reduced costs are the costs and what the potentials of its ends differ by
pub along_reduced : (g : Numbered) (cost pi : ℕ → ℤ) (xs : List ℕ) (u v : ℕ) → IsWalk g u xs v
    → along (reduced_cost g cost pi) xs ≡ (along cost xs +ℤ pi u) -ℤ pi v
along_reduced g cost pi [] u v walk = let same = ap pi walk in omega (arith, ints, same)
along_reduced g cost pi (x ∷ xs) u v walk =
    let rest = along_reduced g cost pi xs (g.to x) v walk.2 in
    let from = ap pi walk.1 in
    omega (arith, ints, rest, from)
