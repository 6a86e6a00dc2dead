-- What a search leaves, read as an answer.
use Rattle.std.proofs.Common.{◌≡◌, ℕ, ◌+◌, ◌*◌, ◌<◌, ◌≤◌, List, length, map, All, get_or, ℤ}
use Rattle.std.proofs.Common.{pos, ◌+ℤ◌, ◌-ℤ◌, ◌≤ℤ◌, Option, None, Some, sym, ◌∙◌, ap, subst, arith}
use Rattle.std.proofs.Math.ListN.{get_or-map}
use Rattle.std.proofs.lemmas.Int.{ints}
use Rattle.std.proofs.lemmas.List.{get_or_default, length-map}
use Rattle.plain_certificates.specs.Numbered.{Numbered, EndsAreNodes}
use Rattle.plain_certificates.specs.Tables.{at}
use Rattle.pace_search.specs.Answers.{IsNegativeRound, IsPotential}
use Rattle.pace_search.specs.Paces.{pace_graph}
use Rattle.pace_search.specs.Runs.{AreShifted, Ends, IsLeft, signed_all}
use Rattle.pace_search.specs.Tree.{origin, shift}
use Rattle.pace_search.proofs.PaceWalks.{pace_nodes}
use Rattle.pace_search.proofs.PotentialShown.{potential_shown}
use Rattle.pace_search.proofs.RoundShown.{round_shown}

-- a length is the number, less the shift
pub length_at : (L : List ℤ) (lens : List ℕ) → AreShifted L lens → (k : ℕ) → k < length lens
    → at (pos 0) L k +ℤ pos shift ≡ pos (at 0 lens k)
length_at L lens shifted k l =
    let here = ap (λ xs. get_or xs k (pos 0)) (sym shifted)
    ∙ (get_or_default (map (λ x. pos x -ℤ pos shift) lens) k (pos 0) (pos 0 -ℤ pos shift)
    (let all = length-map lens (λ x. pos x -ℤ pos shift) in omega (arith, all, l))
    ∙ get_or-map (λ x. pos x -ℤ pos shift) lens k 0) in
    omega (arith, ints, here)

-- lengths that are not above a bound are short with the shift
pub shifted_short : (bound top : ℕ) (L : List ℤ) (lens : List ℕ) → bound + shift ≤ top
    → AreShifted L lens → All (λ l. l ≤ℤ pos bound) L → All (λ l. l ≤ top) lens
shifted_short bound top L lens room shifted high k d l =
    let size = length-map lens (λ x. pos x -ℤ pos shift) in
    let here : get_or (map (λ x. pos x -ℤ pos shift) lens) k (pos d -ℤ pos shift) ≤ℤ pos bound =
    subst (All (λ x. x ≤ℤ pos bound)) (sym shifted) high k (pos d -ℤ pos shift)
    (omega (arith, l, size)) in
    let is = get_or-map (λ x. pos x -ℤ pos shift) lens k d in
    omega (arith, ints, here, is, room)

module _ (g : Numbered) (L : List ℤ) (lens dist dist' via' : List ℕ) (ends : EndsAreNodes g)
    (all : length lens ≡ 2 * g.arcs) (sizes : length dist ≡ g.nodes)
    (from_0 : All (λ d. d ≡ origin) dist) (shifted : AreShifted L lens)
    (was_left : IsLeft (pace_graph g (length lens)) (at 0 lens) (at 0 dist) dist' via') where
  left : IsLeft (pace_graph g (2 * g.arcs)) (at 0 lens) (at 0 dist) dist' via'
  left =
      subst (λ count. IsLeft (pace_graph g count) (at 0 lens) (at 0 dist) dist' via') all was_left

  same : (k : ℕ) → k < 2 * g.arcs → at (pos 0) L k +ℤ pos shift ≡ pos (at 0 lens k)
  same k l = length_at L lens shifted k (omega (arith, l, all))

  first_low : (v : ℕ) → v < g.nodes → at 0 dist v ≤ origin
  first_low v l = let is = from_0 v 0 (omega (arith, l, sizes)) in omega (arith, is)

  now_low : (v : ℕ) → v < g.nodes → at 0 dist' v ≤ origin
  now_low v l =
      let low = left.state.tree.below v in
      let first = first_low v l in
      omega (arith, low, first)

  ended : (found : Option (List ℕ))
      → Ends (pace_graph g (length lens)) (at 0 lens) dist' via' found
      → Ends (pace_graph g (2 * g.arcs)) (at 0 lens) dist' via' found
  ended found = subst (λ count. Ends (pace_graph g count) (at 0 lens) dist' via' found) all

  pub cycle_shown : (found : Option (List ℕ)) (round : List ℕ) → found ≡ Some round
      → Ends (pace_graph g (length lens)) (at 0 lens) dist' via' found
      → IsNegativeRound g (at (pos 0) L) round
  cycle_shown found round is ends_so =
      let last = subst (Ends (pace_graph g (2 * g.arcs)) (at 0 lens) dist' via') is
      (ended found ends_so) in
      round_shown g (at (pos 0) L) (at 0 lens) (at 0 dist) (at 0 dist') (at 0 via')
      left.state.turns left.state.clock (pace_nodes g (2 * g.arcs) (omega arith) ends)
      left.state.tree first_low same round last.0 last.1

  pub settled_shown : (found : Option (List ℕ)) (pi : List ℤ) → found ≡ None
      → Ends (pace_graph g (length lens)) (at 0 lens) dist' via' found → pi ≡ signed_all dist'
      → (length pi ≡ g.nodes) × IsPotential g (at (pos 0) L) (at (pos 0) pi)
  settled_shown found pi is ends_so pi_is =
      let last = subst (Ends (pace_graph g (2 * g.arcs)) (at 0 lens) dist' via') is
      (ended found ends_so) in
      rw pi_is (
        length-map dist' (λ d. pos d -ℤ pos origin) ∙ left.dists,
        potential_shown g (at (pos 0) L) (at 0 lens) dist' ends left.dists last.1 now_low last.0
            same,
      )
