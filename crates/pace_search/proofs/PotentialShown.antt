-- What distances that no pace brings down show.
use Rattle.std.proofs.Common.{◌≡◌, ℕ, ◌+◌, ◌*◌, ◌<◌, ◌≤◌, ◌-◌, List, length, ℤ, pos, ◌+ℤ◌}
use Rattle.std.proofs.Common.{◌-ℤ◌, ◌≤ℤ◌, ap, ◌∙◌, arith}
use Rattle.std.proofs.Math.ListN.{get_or-map}
use Rattle.std.proofs.lemmas.Int.{ints}
use Rattle.std.proofs.lemmas.List.{get_or_default, length-map}
use Rattle.plain_certificates.specs.Numbered.{Numbered, EndsAreNodes}
use Rattle.plain_certificates.specs.Tables.{at}
use Rattle.plain_certificates.specs.Walks.{pace_from, pace_to}
use Rattle.pace_search.specs.Answers.{IsPotential}
use Rattle.pace_search.specs.Paces.{pace_graph}
use Rattle.pace_search.specs.Rounds.{AreWithin}
use Rattle.pace_search.specs.Runs.{signed_all}
use Rattle.pace_search.specs.Tree.{origin, shift, AreRelaxed}
use Rattle.pace_search.proofs.PaceWalks.{pace_ahead, pace_back}

module _ (g : Numbered) (L : ℕ → ℤ) (len : ℕ → ℕ) (dist : List ℕ) (ends : EndsAreNodes g)
    (sizes : length dist ≡ g.nodes) (within : AreWithin g.nodes dist)
    (below : (v : ℕ) → v < g.nodes → at 0 dist v ≤ origin)
    (relaxed : AreRelaxed (pace_graph g (2 * g.arcs)) len (at 0 dist))
    (same : (k : ℕ) → k < 2 * g.arcs → L k +ℤ pos shift ≡ pos (len k)) where
  abbrev h : Numbered
  h = pace_graph g (2 * g.arcs)

  signed_at : (v : ℕ) → v < g.nodes
      → at (pos 0) (signed_all dist) v ≡ pos (at 0 dist v) -ℤ pos origin
  signed_at v l =
      let all = length-map dist (λ d. pos d -ℤ pos origin) in
      get_or_default (signed_all dist) v (pos 0) (pos 0 -ℤ pos origin)
      (omega (arith, all, sizes, l))
      ∙ get_or-map (λ d. pos d -ℤ pos origin) dist v 0

  -- the pace of this number leads no nearer
  no_nearer : (k u v : ℕ) → k < 2 * g.arcs → h.from k ≡ u → h.to k ≡ v → u < g.nodes
      → v < g.nodes
      → at (pos 0) (signed_all dist) v ≤ℤ (at (pos 0) (signed_all dist) u +ℤ L k)
  no_nearer k u v l from to l_u l_v =
      let low = below u l_u in
      let is_u = signed_at u l_u in
      let is_v = signed_at v l_v in
      let f = ap (at 0 dist) from in
      let t = ap (at 0 dist) to in
      let no = relaxed k l (omega (arith, low, f)) in
      let length = same k l in
      omega (arith, ints, no, f, t, is_u, is_v, length)

  pub potential_shown : IsPotential g L (at (pos 0) (signed_all dist))
  potential_shown = record {
    ahead = λ arc l.
        (let is = pace_ahead g arc l in
        no_nearer arc (g.from arc) (g.to arc) (omega (arith, l)) (ap (pace_from g) is)
        (ap (pace_to g) is) (ends arc l).0 (ends arc l).1);
    back = λ arc l.
        (let is = pace_back g (g.arcs + arc) (omega arith) in
        let less : g.arcs + arc - g.arcs ≡ arc = omega arith in
        no_nearer (g.arcs + arc) (g.to arc) (g.from arc) (omega (arith, l))
        (ap (pace_from g) is ∙ ap g.to less) (ap (pace_to g) is ∙ ap g.from less) (ends arc l).1
        (ends arc l).0);
    high = λ v l.
        (let is = signed_at v l in let low = below v l in omega (arith, ints, is, low));
    low = λ v l.
        (let is = signed_at v l in
        let low = within.low v 0 (omega (arith, l, sizes)) in
        omega (arith, ints, is, low));
  }
