-- A search over paces that all go as their arcs do is one over the arcs.
use Rattle.std.proofs.Common.{◌≡◌, ℕ, ◌+◌, ◌<◌, ◌≤◌, List, [], ◌∷◌, sym, ◌∙◌, ap, subst, arith}
use Rattle.plain_certificates.specs.Numbered.{Numbered}
use Rattle.plain_certificates.specs.Tables.{at}
use Rattle.plain_certificates.specs.Walks.{IsWalk, pace_from, pace_to}
use Rattle.pace_search.specs.Climbs.{IsRoundOf}
use Rattle.pace_search.specs.Paces.{pace_graph}
use Rattle.pace_search.specs.Rounds.{IsState}
use Rattle.pace_search.specs.Tree.{far, shift, AreLast, AreRelaxed, IsTree, IsTreeArc}
use Rattle.pace_search.proofs.PaceWalks.{pace_ahead}

module _ (g : Numbered) where
  abbrev h : Numbered
  h = pace_graph g g.arcs

  from_is : (k : ℕ) → k < g.arcs → h.from k ≡ g.from k
  from_is k l = ap (pace_from g) (pace_ahead g k l)

  to_is : (k : ℕ) → k < g.arcs → h.to k ≡ g.to k
  to_is k l = ap (pace_to g) (pace_ahead g k l)

  walk_ahead : (u v : ℕ) (ks : List ℕ) → IsWalk h u ks v → IsWalk g u ks v
  walk_ahead u v [] walk = walk
  walk_ahead u v (k ∷ ks) walk = (
    walk.0,
    sym (from_is k walk.0) ∙ walk.1,
    walk_ahead (g.to k) v ks (subst (λ x. IsWalk h x ks v) (to_is k walk.0) walk.2),
  )

  last_ahead : (D V : ℕ → ℕ) (u v : ℕ) (ks : List ℕ) → IsWalk h u ks v → AreLast h D V ks
      → AreLast g D V ks
  last_ahead D V u v [] walk last = tt
  last_ahead D V u v (k ∷ ks) walk last = (
    sym (ap V (to_is k walk.0)) ∙ last.0,
    subst (λ x. D x < far) (to_is k walk.0) last.1,
    last_ahead D V (h.to k) v ks walk.2 last.2,
  )

  pub round_ahead : (D V : ℕ → ℕ) (ks : List ℕ) → IsRoundOf h D V ks → IsRoundOf g D V ks
  round_ahead D V ks round = record {
    some = round.some;
    differ = round.differ;
    node = round.node;
    closed = walk_ahead round.node round.node ks round.closed;
    last = last_ahead D V round.node round.node ks round.closed round.last;
  }

  pub relaxed_ahead : (len D : ℕ → ℕ) → AreRelaxed h len D → AreRelaxed g len D
  relaxed_ahead len D relaxed k l near =
      let from = ap D (from_is k l) in
      let to = ap D (to_is k l) in
      let le = relaxed k l (omega (arith, from, near)) in
      omega (arith, le, from, to)

  arc_ahead : (len D T : ℕ → ℕ) (v k : ℕ) → k < g.arcs → IsTreeArc h len D T v k
      → IsTreeArc g len D T v k
  arc_ahead len D T v k l a = record {
    ends = sym (to_is k l) ∙ a.ends;
    near = subst (λ x. D x < far) (from_is k l) a.near;
    enough = subst (λ x. D x + len k ≤ D v + shift) (from_is k l) a.enough;
    before = subst (λ x. D v + shift ≤ D x + len k → T x < T v) (from_is k l) a.before;
  }

  tree_ahead : (len first D V T : ℕ → ℕ) (clock : ℕ) → IsTree h len first D V T clock
      → IsTree g len first D V T clock
  tree_ahead len first D V T clock tree = record {
    below = tree.below;
    root = tree.root;
    via = λ v l near q. arc_ahead len D T v (V v) q (tree.via v l near q);
    turns = tree.turns;
    reached = λ v l near.
        (let r = tree.reached v l near in
        record {
          start = r.start;
          inside = r.inside;
          begins = r.begins;
          arcs = r.arcs;
          walk = walk_ahead r.start v r.arcs r.walk;
        });
  }

  pub state_ahead : (len first : ℕ → ℕ) (dist via : List ℕ) → IsState h len first dist via
      → IsState g len first dist via
  state_ahead len first dist via state = record {
    turns = state.turns;
    clock = state.clock;
    tree = tree_ahead len first (at 0 dist) (at 0 via) state.turns state.clock state.tree;
  }
