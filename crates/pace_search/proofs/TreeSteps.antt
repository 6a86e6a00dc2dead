-- How a tree of last arcs is kept, and what its cycles are.
use Rattle.std.proofs.Common.{◌≡◌, ◌≢◌, inl, inr, ℕ, ◌+◌, ◌<◌, ◌≤◌}
use Rattle.std.proofs.Common.{[], ◌∷◌, ◌++◌, refl, sym, ◌∙◌, ap, arith}
use Rattle.std.proofs.lemmas.Bool.Decides.{nat_tests, eqb_tells}
use Rattle.plain_certificates.specs.Numbered.{Numbered, EndsAreNodes}
use Rattle.plain_certificates.specs.Tables.{set_at}
use Rattle.plain_certificates.proofs.Tables.{set_at-here, set_at-other}
use Rattle.plain_certificates.proofs.Walks.{walk-append}
use Rattle.pace_search.specs.Tree.{far, shift, IsTreeArc, IsTree}

module _ (g : Numbered) (len first D V T : ℕ → ℕ) (clock : ℕ)
    (ends : EndsAreNodes g) (tree : IsTree g len first D V T clock) where
  module _ (k next : ℕ) (l : k < g.arcs) (source : D (g.from k) < far)
      (sum : next + shift ≡ D (g.from k) + len k) (less : next < D (g.to k)) (low : next < far)
    where
      abbrev u : ℕ
      u = g.from k

      abbrev v : ℕ
      v = g.to k

      abbrev D' : ℕ → ℕ
      D' = set_at D v next

      abbrev V' : ℕ → ℕ
      V' = set_at V v k

      abbrev T' : ℕ → ℕ
      T' = set_at T v (clock + 1)

      lower : (w : ℕ) → D' w ≤ D w
      lower w = elim (eqb_tells w v) [
        | inl e ↦
            (let new = ap D' e.1 ∙ set_at-here D v next in
            let was = ap D e.1 in
            omega (arith, new, was, less))
        | inr e ↦ (let same = set_at-other D v next w e.1 in omega (arith, same))
      ]

      was_near : (w : ℕ) → w ≢ v → D' w < far → D w < far
      was_near w ne n = let same = set_at-other D v next w ne in omega (arith, same, n)

      -- the arc that is written
      arc_new : IsTreeArc g len D' T' v (V' v)
      arc_new =
          let here = set_at-here D v next in
          let clocked = set_at-here T v (clock + 1) in
          let low_u = lower u in
          rw (set_at-here V v k) (record {
            ends = refl;
            near = omega (arith, low_u, source);
            enough = omega (arith, low_u, sum, here);
            before = λ all. elim (eqb_tells u v) [
              | inl e ↦
                  absurd (let same = ap D' e.1 in
                  let was = ap D e.1 in
                  omega (arith, same, was, here, sum, less, all))
              | inr e ↦
                  (let t = set_at-other T v (clock + 1) u e.1 in
                  let old = tree.turns u in
                  omega (arith, t, old, clocked))
            ];
          })

      -- another node's arc
      arc_old : (w : ℕ) → w ≢ v → IsTreeArc g len D T w (V w)
          → IsTreeArc g len D' T' w (V' w)
      arc_old w ne a =
          let x = g.from (V w) in
          let same = set_at-other D v next w ne in
          let turn = set_at-other T v (clock + 1) w ne in
          let low_x = lower x in
          let near = a.near in
          let enough = a.enough in
          let before = a.before in
          rw (set_at-other V v k w ne) (record {
            ends = a.ends;
            near = omega (arith, low_x, near);
            enough = omega (arith, low_x, enough, same);
            before = λ all. elim (eqb_tells x v) [
              | inl e ↦
                  absurd (let new = ap D' e.1 ∙ set_at-here D v next in
                  let was = ap D e.1 in
                  omega (arith, new, was, less, enough, all, same))
              | inr e ↦
                  (let keep = set_at-other D v next x e.1 in
                  let t = set_at-other T v (clock + 1) x e.1 in
                  let b = before (omega (arith, keep, same, all)) in
                  omega (arith, t, b, turn))
            ];
          })

      pub written : IsTree g len first (set_at D (g.to k) next) (set_at V (g.to k) k)
          (set_at T (g.to k) (clock + 1)) (clock + 1)
      written = record {
        below = λ w. (let b = lower w in let a = tree.below w in omega (arith, a, b));
        root = λ w lw n out. elim (eqb_tells w v) [
          | inl e ↦ absurd (let here = ap V' e.1 ∙ set_at-here V v k in omega (arith, here, out, l))
          | inr e ↦
              (let arc = set_at-other V v k w e.1 in
              let same = set_at-other D v next w e.1 in
              let r = tree.root w lw (was_near w e.1 n) (omega (arith, arc, out)) in
              same ∙ r)
        ];
        via = λ w lw n in_arcs. elim (eqb_tells w v) [
          | inl e ↦ rw e.1 arc_new
          | inr e ↦
              (let arc = set_at-other V v k w e.1 in
              arc_old w e.1 (tree.via w lw (was_near w e.1 n) (omega (arith, arc, in_arcs))))
        ];
        turns = λ w. (let a = tree.turns w in grind (arith, nat_tests, a));
        reached = λ w lw n. elim (eqb_tells w v) [
          | inl e ↦
              (let before = tree.reached u (ends k l).0 source in
              record {
                start = before.start;
                inside = before.inside;
                begins = before.begins;
                arcs = before.arcs ++ (k ∷ []);
                walk = walk-append g before.start u w before.arcs (k ∷ []) before.walk
                    (l, refl, sym e.1);
              })
          | inr e ↦ tree.reached w lw (was_near w e.1 n)
        ];
      }
