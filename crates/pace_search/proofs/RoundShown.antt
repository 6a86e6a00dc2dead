-- What a round of last paces shows.
use Rattle.std.proofs.Common.{◌≡◌, ◌≢◌, ◌⊎◌, inl, inr, ℕ, ◌+◌, ◌*◌, ◌<◌, ◌≤◌, ◌-◌, true, List}
use Rattle.std.proofs.Common.{[], ◌∷◌, All, ℤ, pos, ◌+ℤ◌, ◌<ℤ◌, sym, ◌∙◌, ap, arith}
use Rattle.std.specs.List.{AllByRecursion}
use Rattle.std.proofs.lemmas.Int.{ints}
use Rattle.std.proofs.lemmas.List.Elements.{All-nil, All-cons}
use Rattle.plain_certificates.specs.Numbered.{Numbered, EndsAreNodes}
use Rattle.plain_certificates.specs.Walks.{IsWalk, first_is_least, pace_from, pace_to}
use Rattle.pace_search.specs.Answers.{none, HasNoTurn, IsNegativeRound}
use Rattle.pace_search.specs.Climbs.{IsRoundOf}
use Rattle.pace_search.specs.Paces.{pace_at, pace_graph}
use Rattle.pace_search.specs.Tree.{far, origin, shift, AreLast, IsTree, IsTreeArc}
use Rattle.pace_search.proofs.Marks.{leq_or}
use Rattle.pace_search.proofs.PaceWalks.{is_ahead, is_back, pace_ahead, pace_back, trail_of}
use Rattle.pace_search.proofs.PaceWalks.{parts_differ}
use Rattle.pace_search.proofs.TreeRounds.{arc_of, round_is_negative}

-- different paces of one arc are that arc and the arc back
turn_of : (g : Numbered) (j k : ℕ) → j ≢ k → (pace_at g j).arc ≡ (pace_at g k).arc
    → ((j < g.arcs) × (k ≡ g.arcs + j)) ⊎ ((k < g.arcs) × (j ≡ g.arcs + k))
turn_of g j k ne same = either (leq_or g.arcs j) (leq_or g.arcs k)
  where
    either : (g.arcs ≤ j) ⊎ (j < g.arcs) → (g.arcs ≤ k) ⊎ (k < g.arcs)
        → ((j < g.arcs) × (k ≡ g.arcs + j)) ⊎ ((k < g.arcs) × (j ≡ g.arcs + k))
    either (inl high_j) (inl high_k) =
        absurd (let e = rw (is_back g j high_j, is_back g k high_k) at same in
        ne (omega (arith, e, high_j, high_k)))
    either (inl high_j) (inr low_k) =
        let e = rw (is_back g j high_j, is_ahead g k low_k) at same in
        inr (low_k, omega (arith, e, high_j))
    either (inr low_j) (inl high_k) =
        let e = rw (is_ahead g j low_j, is_back g k high_k) at same in
        inl (low_j, omega (arith, e, high_k))
    either (inr low_j) (inr low_k) =
        absurd (let e = rw (is_ahead g j low_j, is_ahead g k low_k) at same in ne e)

all_from : (P Q : ℕ → Type 0) → ((k : ℕ) → P k → Q k) → (ks : List ℕ) → AllByRecursion P ks
    → All Q ks
all_from P Q each [] all = All-nil Q
all_from P Q each (k ∷ ks) all =
    All-cons Q k ks (each k all.0) (all_from P Q each ks all.1)

module _ (g : Numbered) (L : ℕ → ℤ) (len first D V T : ℕ → ℕ) (clock : ℕ)
    (ends : EndsAreNodes (pace_graph g (2 * g.arcs)))
    (tree : IsTree (pace_graph g (2 * g.arcs)) len first D V T clock)
    (from_0 : (v : ℕ) → v < g.nodes → first v ≤ origin)
    (same : (k : ℕ) → k < 2 * g.arcs → L k +ℤ pos shift ≡ pos (len k)) where
  abbrev h : Numbered
  h = pace_graph g (2 * g.arcs)

  -- the last pace to a node that has a distance
  record IsLastPace (k : ℕ) : Type 0 where
    pub known : k < 2 * g.arcs
    pub last : V (h.to k) ≡ k
    pub near : D (h.to k) < far

  all_last : (u v : ℕ) (ks : List ℕ) → IsWalk h u ks v → AreLast h D V ks
      → AllByRecursion IsLastPace ks
  all_last u v [] walk last = tt
  all_last u v (k ∷ ks) walk last = (
    record { known = walk.0; last = last.0; near = last.1 },
    all_last (h.to k) v ks walk.2 last.2,
  )

  tree_arc : (k : ℕ) → IsLastPace k → IsTreeArc h len D T (h.to k) k
  tree_arc k p = arc_of h L len first D V T clock ends tree same k p.known p.last p.near

  -- an arc there and back would be of negative length
  no_turn : HasNoTurn g L → (k : ℕ) → k < g.arcs → IsLastPace k → IsLastPace (g.arcs + k) → ⊥
  no_turn turn k l there back =
      let a = tree_arc k there in
      let b = tree_arc (g.arcs + k) back in
      let is_there = pace_ahead g k l in
      let is_back = pace_back g (g.arcs + k) (omega arith) in
      let less : g.arcs + k - g.arcs ≡ k = omega arith in
      let from_a : h.from k ≡ g.from k = ap (pace_from g) is_there in
      let to_a : h.to k ≡ g.to k = ap (pace_to g) is_there in
      let from_b : h.from (g.arcs + k) ≡ g.to k = ap (pace_from g) is_back ∙ ap g.to less in
      let to_b : h.to (g.arcs + k) ≡ g.from k = ap (pace_to g) is_back ∙ ap g.from less in
      let enough_a = rw (from_a, to_a) at a.enough in
      let enough_b = rw (from_b, to_b) at b.enough in
      let before_a = rw (from_a, to_a) at a.before in
      let before_b = rw (from_b, to_b) at b.before in
      let length_a = same k there.known in
      let length_b = same (g.arcs + k) back.known in
      let sum = turn k l in
      let first_a = before_a (omega (arith, ints, enough_b, length_a, length_b, sum)) in
      let first_b = before_b (omega (arith, ints, enough_a, length_a, length_b, sum)) in
      omega (arith, first_a, first_b)

  arcs_apart : HasNoTurn g L → (j k : ℕ) → IsLastPace j → IsLastPace k → j ≢ k
      → (pace_at g j).arc ≢ (pace_at g k).arc
  arcs_apart turn j k p q ne e = elim (turn_of g j k ne e) [
    | inl there ↦ no_turn turn j there.0 p (rw (sym there.1) q)
    | inr there ↦ no_turn turn k there.0 q (rw (sym there.1) p)
  ]

  -- no pace on it is as long as what stands for none
  is_short : (k : ℕ) → IsLastPace k → L k <ℤ none
  is_short k p =
      let a = (tree_arc k p).enough in
      let low = tree.below (h.to k) in
      let high = from_0 (h.to k) (ends k p.known).1 in
      let length = same k p.known in
      omega (arith, ints, a, low, high, length)

  pub round_shown : (round : List ℕ) → IsRoundOf h D V round → first_is_least round ≡ true
      → IsNegativeRound g L round
  round_shown round is least =
      let all = all_last is.node is.node round is.closed is.last in
      record {
        nonempty = is.some;
        known = all_from IsLastPace (λ k. k < 2 * g.arcs) (λ k p. p.known) round all;
        node = is.node;
        closed = trail_of g (2 * g.arcs) (omega arith) is.node is.node round is.closed;
        nodes_differ = parts_differ IsLastPace (pace_to g) g
            (λ j k p q ne e. ne (sym p.last ∙ (ap V e ∙ q.last))) round all is.differ;
        arcs_differ = λ turn. parts_differ IsLastPace (λ pace. pace.arc) g (arcs_apart turn) round
            all is.differ;
        least_first = least;
        short = all_from IsLastPace (λ k. L k <ℤ none) is_short round all;
        negative = round_is_negative h L len first D V T clock ends tree same is.node round
            is.some is.last is.closed;
      }
