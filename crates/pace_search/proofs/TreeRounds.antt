-- Rounds of last arcs are of negative length.
use Rattle.std.proofs.Common.{◌≡◌, ℕ, ◌+◌, ◌<◌, ◌≤◌, List}
use Rattle.std.proofs.Common.{[], ◌∷◌, length, ℤ, pos, ◌+ℤ◌, ◌≤ℤ◌, ◌<ℤ◌, refl, ap}
use Rattle.std.proofs.Common.{negsuc, subst, arith}
use Rattle.std.proofs.lemmas.Int.{ints}
use Rattle.plain_certificates.specs.Numbered.{Numbered, EndsAreNodes}
use Rattle.plain_certificates.specs.Walks.{IsWalk, along}
use Rattle.pace_search.specs.Tree.{far, shift, IsTreeArc, IsTree, AreLast}

module _ (g : Numbered) (L : ℕ → ℤ) (len first D V T : ℕ → ℕ) (clock : ℕ)
    (ends : EndsAreNodes g) (tree : IsTree g len first D V T clock)
    (same : (k : ℕ) → k < g.arcs → L k +ℤ pos shift ≡ pos (len k)) where
  pub arc_of : (k : ℕ) → k < g.arcs → V (g.to k) ≡ k → D (g.to k) < far
      → IsTreeArc g len D T (g.to k) k
  arc_of k l is near =
      subst (IsTreeArc g len D T (g.to k)) is
      (tree.via (g.to k) (ends k l).1 near (omega (arith, is, l)))

  -- along last arcs distances rise by the length or more, and if by no more, then turns rise too
  rises : (u v : ℕ) (arcs : List ℕ) → AreLast g D V arcs → IsWalk g u arcs v
      → ((pos (D u) +ℤ along L arcs) ≤ℤ pos (D v))
      × (pos (D v) ≤ℤ (pos (D u) +ℤ along L arcs) → T u + length arcs ≤ T v)
  rises u v [] all walk =
      let d = ap D walk in
      let t = ap T walk in
      (omega (arith, ints, d), λ q. omega (arith, t))
  rises u v (k ∷ arcs) all walk =
      let l = walk.0 in
      let a = arc_of k l all.0 all.1 in
      let rest = rises (g.to k) v arcs all.2 walk.2 in
      let below = rest.0 in
      let later = rest.1 in
      let is = same k l in
      let from = ap D walk.1 in
      let turn = ap T walk.1 in
      let enough = a.enough in
      let before = a.before in (
        omega (arith, ints, below, is, from, enough),
        λ q.
            (let b = before (omega (arith, ints, q, below, is, from)) in
            let c = later (omega (arith, ints, q, is, from, enough)) in
            omega (arith, b, c, turn)),
      )

  pub round_is_negative : (u : ℕ) (arcs : List ℕ) → 0 < length arcs → AreLast g D V arcs
      → IsWalk g u arcs u → along L arcs <ℤ pos 0
  round_is_negative u arcs some all walk =
      elim_sign (along L arcs) refl
    where
      elim_sign : (z : ℤ) → along L arcs ≡ z → along L arcs <ℤ pos 0
      elim_sign (pos n) is =
          absurd (let r = rises u u arcs all walk in
          let later = r.1 (omega (arith, ints, is)) in
          omega (arith, later, some))
      elim_sign (negsuc n) is = omega (arith, ints, is)
