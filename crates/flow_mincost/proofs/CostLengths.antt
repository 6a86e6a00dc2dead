-- What the lengths of paces with room say.
use Rattle.std.proofs.Common.{◌≡◌, inl, inr, ℕ, ◌+◌, ◌-◌, ◌*◌, ◌<◌, Bool, true, false, cond}
use Rattle.std.proofs.Common.{ℤ, pos, neg_ℤ, ◌<ℤ◌, List, [], ◌∷◌, All, length, refl}
use Rattle.std.proofs.Common.{subst, arith}
use Rattle.std.proofs.lemmas.Int.{ints}
use Rattle.std.proofs.lemmas.List.Elements.{All-head, All-tail, All-cons, All-nil}
use Rattle.plain_certificates.specs.Numbered.{Numbered}
use Rattle.plain_certificates.specs.Pushes.{along_trail, by_pace}
use Rattle.plain_certificates.specs.Tables.{at}
use Rattle.plain_certificates.specs.Walks.{along}
use Rattle.pace_search.proofs.PaceWalks.{arc_known, pace_ahead, pace_back}
use Rattle.pace_search.specs.Answers.{HasNoTurn, IsNegativeRound, IsPotential, none}
use Rattle.pace_search.specs.Paces.{pace_at, paces_at}
use Rattle.task_bounds.specs.Given.{IsValue}
use Rattle.flow_mincost.proofs.LengthCases.{either, is_there}
use Rattle.flow_mincost.specs.Lengths.{AreCosts, IsLength}
use Rattle.flow_mincost.specs.Prices.{ArePrices}
use Rattle.flow_mincost.specs.Pushing.{IsRoomy}
use Rattle.flow_mincost.specs.Rooms.{room}

turned_small : (onward : Bool) (x : ℤ) → IsValue x → IsValue (cond onward x (neg_ℤ x))
turned_small true x small = small
turned_small false x small =
    let low = small.0 in
    let high = small.1 in
    (omega (arith, ints, high), omega (arith, ints, low))

module _ (g : Numbered) (cap : ℕ → ℕ) (cost : ℕ → ℤ) (sent : ℕ → ℕ) (lens : List ℤ)
    (are : AreCosts g cap cost sent lens) (small : (k : ℕ) → k < g.arcs → IsValue (cost k)) where
  abbrev len : ℕ → ℤ
  len = at (pos 0) lens

  abbrev value : ℕ → ℤ
  value k = by_pace (pace_at g k) (cost (pace_at g k).arc)

  pub values_small : (k : ℕ) → k < 2 * g.arcs → IsValue (value k)
  values_small k l =
      turned_small (pace_at g k).onward (cost (pace_at g k).arc)
      (small (pace_at g k).arc (arc_known g k l))

  -- the two paces of an arc
  ahead : (k : ℕ) → k < g.arcs → IsLength (cap k - sent k) (cost k) (len k)
  ahead k l =
      subst (λ p. IsLength (room cap sent true p) (by_pace p (cost p.arc)) (len k))
      (pace_ahead g k l) (are.each k (omega (arith, l)))

  back : (k : ℕ) → k < g.arcs → IsLength (sent k) (neg_ℤ (cost k)) (len (g.arcs + k))
  back k l =
      let e : (g.arcs + k) - g.arcs ≡ k = omega arith in
      subst (λ j. IsLength (sent j) (neg_ℤ (cost j)) (len (g.arcs + k))) e
      (subst (λ p. IsLength (room cap sent true p) (by_pace p (cost p.arc)) (len (g.arcs + k)))
      (pace_back g (g.arcs + k) (omega arith)) (are.each (g.arcs + k) (omega (arith, l))))

  -- there and back is never of negative length
  pub no_turn : HasNoTurn g len
  no_turn k l =
      let v = small k l in
      let low = v.0 in
      let high = v.1 in
      elim (either (cap k - sent k) (cost k) (len k) (ahead k l)) [
        | inl a ↦ (let x = a.1 in
            elim (either (sent k) (neg_ℤ (cost k)) (len (g.arcs + k)) (back k l)) [
              | inl b ↦ (let y = b.1 in omega (arith, ints, x, y))
              | inr b ↦ (let y = b.1 in omega (arith, ints, x, y, low))
            ])
        | inr a ↦ (let x = a.1 in
            elim (either (sent k) (neg_ℤ (cost k)) (len (g.arcs + k)) (back k l)) [
              | inl b ↦ (let y = b.1 in omega (arith, ints, x, y, high))
              | inr b ↦ (let y = b.1 in omega (arith, ints, x, y))
            ])
      ]

  -- ---- potentials

  pub prices : (pi : List ℤ) → length pi ≡ g.nodes → IsPotential g len (at (pos 0) pi)
      → ArePrices g cap cost sent pi
  prices pi all potential = record {
    all = all;
    low = potential.low;
    high = potential.high;
    no_gain = record {
      up = λ k l more.
          (let is = (ahead k l).there (omega (arith, more)) in
          let rise = potential.ahead k l in
          omega (arith, ints, is, rise));
      down = λ k l some.
          (let is = (back k l).there some in
          let rise = potential.back k l in
          omega (arith, ints, is, rise));
    };
  }

  -- ---- a round

  here : (k : ℕ) → k < 2 * g.arcs → len k <ℤ none
      → (0 < room cap sent true (pace_at g k)) × (len k ≡ value k)
  here k l short =
      is_there (room cap sent true (pace_at g k)) (value k) (len k) (are.each k l) short

  -- its length is what a unit costs along it
  round_costs : (round : List ℕ) → All (λ k. k < 2 * g.arcs) round
      → All (λ k. len k <ℤ none) round → along len round ≡ along_trail cost (paces_at g round)
  round_costs [] known short = refl
  round_costs (k ∷ round) known short =
      let is = (here k (All-head (λ j. j < 2 * g.arcs) k round known)
      (All-head (λ j. len j <ℤ none) k round short)).1 in
      let rest = round_costs round (All-tail (λ j. j < 2 * g.arcs) k round known)
      (All-tail (λ j. len j <ℤ none) k round short) in
      omega (arith, ints, is, rest)

  rooms : (round : List ℕ) → All (λ k. k < 2 * g.arcs) round → All (λ k. len k <ℤ none) round
      → All (λ k. 0 < room cap sent true (pace_at g k)) round
  rooms [] known short = All-nil (λ k. 0 < room cap sent true (pace_at g k))
  rooms (k ∷ round) known short =
      All-cons (λ j. 0 < room cap sent true (pace_at g j)) k round
      (here k (All-head (λ j. j < 2 * g.arcs) k round known)
      (All-head (λ j. len j <ℤ none) k round short)).0
      (rooms round (All-tail (λ j. j < 2 * g.arcs) k round known)
      (All-tail (λ j. len j <ℤ none) k round short))

  pub roomy_round : (round : List ℕ) → IsNegativeRound g len round
      → IsRoomy g cap sent true round
  roomy_round round is = record {
    some = is.nonempty;
    known = is.known;
    differ = is.arcs_differ no_turn;
    roomy = rooms round is.known is.short;
  }

  pub round_saves : (round : List ℕ) → IsNegativeRound g len round
      → along_trail cost (paces_at g round) <ℤ pos 0
  round_saves round is =
      let e = round_costs round is.known is.short in
      let less = is.negative in
      omega (arith, ints, e, less)
