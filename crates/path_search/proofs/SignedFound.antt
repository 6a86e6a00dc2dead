-- What a search has left, read as an answer.
use Rattle.std.proofs.Common.{◌≡◌, ℕ, ◌<◌, ◌≤◌, ◌^◌, true, List, [], ◌∷◌, length, All, get_or}
use Rattle.std.proofs.Common.{Option, None, Some, ℤ, pos, ◌+ℤ◌, sym, ◌∙◌, ap, subst, arith}
use Rattle.std.proofs.lemmas.List.FromFn.{get_or-map-range_with_len, length-map-range_with_len}
use Rattle.plain_certificates.specs.Numbered.{Numbered, EndsAreNodes}
use Rattle.plain_certificates.specs.Tables.{at}
use Rattle.plain_certificates.specs.Walks.{IsWalk, first_is_least}
use Rattle.plain_certificates.specs.Paths.{IsNegativeCycle}
use Rattle.pace_search.specs.Climbs.{IsRoundOf}
use Rattle.pace_search.specs.Paces.{pace_graph}
use Rattle.pace_search.specs.Rounds.{IsState}
use Rattle.pace_search.specs.Runs.{AreShifted, Ends, IsLeft}
use Rattle.pace_search.specs.Tree.{shift}
use Rattle.pace_search.proofs.Shown.{length_at}
use Rattle.pace_search.proofs.TreeRounds.{arc_of, round_is_negative}
use Rattle.path_search.specs.Answers.{via_in, IsAnswer}
use Rattle.path_search.specs.Signed.{TellsSigned}
use Rattle.path_search.specs.Tree.{BeginsAt, signed_in}
use Rattle.path_search.proofs.AllAhead.{relaxed_ahead, round_ahead, state_ahead}
use Rattle.path_search.proofs.TreePaths.{tree_paths}

module _ (g : Numbered) (L : List ℤ) (lens : List ℕ) (s : ℕ) (first : ℕ → ℕ) (dist via : List ℕ)
    (ends : EndsAreNodes g) (ls : s < g.nodes) (few : g.nodes ≤ 1048576)
    (lens_all : length lens ≡ g.arcs) (shifted : AreShifted L lens) (begins : BeginsAt g s first)
    (left : IsLeft (pace_graph g (length lens)) (at 0 lens) first dist via) where
  same : (k : ℕ) → k < g.arcs → at (pos 0) L k +ℤ pos shift ≡ pos (at 0 lens k)
  same k l = length_at L lens shifted k (omega (arith, l, lens_all))

  state : IsState g (at 0 lens) first dist via
  state =
      state_ahead g (at 0 lens) first dist via
      (subst (λ count. IsLeft (pace_graph g count) (at 0 lens) first dist via) lens_all left).state

  ended : (found : Option (List ℕ)) → Ends (pace_graph g (length lens)) (at 0 lens) dist via found
      → Ends (pace_graph g g.arcs) (at 0 lens) dist via found
  ended found = subst (λ count. Ends (pace_graph g count) (at 0 lens) dist via found) lens_all

  -- last arcs that close up are a negative cycle
  negative_cycle : (cycle : List ℕ) → IsRoundOf g (at 0 dist) (at 0 via) cycle
      → first_is_least cycle ≡ true → IsNegativeCycle g (at (pos 0) L) s cycle
  negative_cycle [] round least = absurd (let some = round.some in omega (arith, some))
  negative_cycle (k ∷ rest) round least =
      let tree = state.tree in
      let last = round.last in
      let l = round.closed.0 in
      let arc = arc_of g (at (pos 0) L) (at 0 lens) first (at 0 dist) (at 0 via) state.turns
      state.clock ends tree same k l last.0 last.1 in
      let way = tree.reached (g.from k) (ends k l).0 arc.near in
      let from_s = begins.others way.start way.inside way.begins in
      record {
        is_cycle = record {
          nonempty = round.some;
          differ = round.differ;
          closed = subst (λ u. IsWalk g u (k ∷ rest) u) (sym round.closed.1) round.closed;
          least_first = least;
        };
        negative = round_is_negative g (at (pos 0) L) (at 0 lens) first (at 0 dist) (at 0 via)
            state.turns state.clock ends tree same round.node (k ∷ rest) round.some last
            round.closed;
        walk = way.arcs;
        reached = subst (λ u. IsWalk g u way.arcs (g.from k)) from_s way.walk;
      }

  -- where no arc leads nearer, they are shortest paths
  pub signed_answer : (dists : List (Option ℤ)) (vias : List (Option ℕ)) (found : Option (List ℕ))
      → found ≡ None → All (λ l. l ≤ 2 ^ 37) lens
      → Ends (pace_graph g (length lens)) (at 0 lens) dist via found
      → TellsSigned dist via s dists vias → IsAnswer g L s dists vias
  signed_answer dists vias found is short ends_so tells =
      let last = subst (Ends (pace_graph g g.arcs) (at 0 lens) dist via) is (ended found ends_so) in
      let sizes = left.dists in
      record {
        dists_all = ap length tells.dists_are
            ∙ (length-map-range_with_len (λ v. signed_in (at 0 dist v)) 0 (length dist) ∙ sizes);
        vias_all = ap length tells.vias_are
            ∙ (length-map-range_with_len (λ v. via_in (at 0 dist v) (at 0 via v) v s) 0
            (length dist)
            ∙ sizes);
        paths = tree_paths g (at (pos 0) L) (at 0 lens) s first (at 0 dist) (at 0 via) state.turns
            state.clock ends ls few begins state.tree
            (relaxed_ahead g (at 0 lens) (at 0 dist) last.0)
            (λ k l. short k 0 (omega (arith, l, lens_all))) same (at None dists) (at None vias)
            (λ v l. ap (λ xs. get_or xs v None) tells.dists_are
            ∙ get_or-map-range_with_len (λ u. signed_in (at 0 dist u)) 0 (length dist) v v None
            (omega (arith, sizes, l)) (omega arith))
            (λ v l. ap (λ xs. get_or xs v None) tells.vias_are
            ∙ get_or-map-range_with_len (λ u. via_in (at 0 dist u) (at 0 via u) u s) 0
            (length dist) v v None (omega (arith, sizes, l)) (omega arith));
      }

  -- last paces that lead round are a negative cycle
  pub cycle_found : (found : Option (List ℕ)) (cycle : List ℕ) → found ≡ Some cycle
      → Ends (pace_graph g (length lens)) (at 0 lens) dist via found
      → IsNegativeCycle g (at (pos 0) L) s cycle
  cycle_found found cycle is ends_so =
      let last = subst (Ends (pace_graph g g.arcs) (at 0 lens) dist via) is (ended found ends_so) in
      negative_cycle cycle (round_ahead g (at 0 dist) (at 0 via) cycle last.0) last.1
