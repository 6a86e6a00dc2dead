-- Where no arc leads nearer, a tree of last arcs leads back to the start.
use Rattle.std.proofs.Common.{◌≡◌, ◌≢◌, ◌⊎◌, inl, inr, ℕ, zero, suc, ◌+◌, ◌*◌, ◌<◌, ◌≤◌, ◌^◌, true}
use Rattle.std.proofs.Common.{cond, Option, Some, ◌∙◌, ap, subst, arith}
use Rattle.std.specs.Prelude.{nat_lt}
use Rattle.std.proofs.lemmas.Bool.Decides.{nat_tests, eqb_tells}
use Rattle.plain_certificates.specs.Numbered.{Numbered, EndsAreNodes}
use Rattle.plain_certificates.specs.Paths.{leads_back}
use Rattle.plain_certificates.specs.Totals.{total_to}
use Rattle.plain_certificates.proofs.Totals.{total-le}
use Rattle.pace_search.specs.Tree.{far, origin, shift, IsTree, AreRelaxed}
use Rattle.pace_search.proofs.Marks.{leq_or}
use Rattle.path_search.specs.Tree.{BeginsAt}

-- how many nodes have an earlier turn
abbrev one_before : (ℕ → ℕ) → ℕ → ℕ → ℕ
one_before T t w = cond (nat_lt (T w) t) 1 0

abbrev rank : ℕ → (ℕ → ℕ) → ℕ → ℕ
rank n T t = total_to n (one_before T t)

before_le : (T : ℕ → ℕ) (a b w : ℕ) → a ≤ b → one_before T a w ≤ one_before T b w
before_le T a b w le = grind (arith, nat_tests, le)

rank_le : (n : ℕ) (T : ℕ → ℕ) (a b : ℕ) → a ≤ b → rank n T a ≤ rank n T b
rank_le n T a b le = total-le n (one_before T a) (one_before T b) (λ w l. before_le T a b w le)

-- the rank is greater past the turn of a node
rank_less : (n : ℕ) (T : ℕ → ℕ) (u t : ℕ) → u < n → T u < t → rank n T (T u) < rank n T t
rank_less zero T u t l less = absurd (omega (arith, l))
rank_less (suc n) T u t l less =
    elim (eqb_tells u n) [
      | inl e ↦
          (let below = rank_le n T (T u) t (omega (arith, less)) in
          let here = ap T e.1 in
          grind (arith, nat_tests, below, here, less))
      | inr e ↦
          (let ne = e.1 in
          let below = rank_less n T u t (omega (arith, ne, l)) less in
          let last = before_le T (T u) t n (omega (arith, less)) in
          omega (arith, below, last))
    ]

rank_few : (n : ℕ) (T : ℕ → ℕ) (t : ℕ) → rank n T t ≤ n
rank_few zero T t = omega arith
rank_few (suc n) T t =
    let below = rank_few n T t in
    let last : one_before T t n ≤ 1 = grind (arith, nat_tests) in
    omega (arith, below, last)

module _ (g : Numbered) (len : ℕ → ℕ) (s : ℕ) (first D V T : ℕ → ℕ) (clock : ℕ)
    (ends : EndsAreNodes g) (ls : s < g.nodes) (begins : BeginsAt g s first)
    (tree : IsTree g len first D V T clock) (relaxed : AreRelaxed g len D) where
  start_near : D s < far
  start_near = let low = tree.below s in let is = begins.start in omega (arith, low, is)

  -- a node that has a distance and no last arc is the start
  root : (v : ℕ) → v < g.nodes → D v < far → g.arcs ≤ V v → (v ≡ s) × (D v ≡ origin)
  root v l near out =
      let is = tree.root v l near out in
      let e = begins.others v l (omega (arith, is, near)) in
      (e, is ∙ (ap first e ∙ begins.start))

  -- the arc is tight, and comes from an earlier node
  pub tight : (v : ℕ) → v < g.nodes → D v < far → V v < g.arcs
      → (D v + shift ≡ D (g.from (V v)) + len (V v)) × (T (g.from (V v)) < T v)
  tight v l near in_arcs =
      let a = tree.via v l near in_arcs in
      let r = relaxed (V v) in_arcs a.near in
      let to = ap D a.ends in
      let enough = a.enough in
      (omega (arith, r, to, enough), a.before (omega (arith, r, to)))

  has_root : (n v : ℕ) → T v ≤ n → v < g.nodes → D v < far → g.arcs ≤ V s
  has_root zero v few l near = elim (leq_or g.arcs (V v)) [
    | inl out ↦ subst (λ x. g.arcs ≤ V x) (root v l near out).0 out
    | inr q ↦ absurd (let t = (tight v l near q).1 in omega (arith, t, few))
  ]
  has_root (suc n) v few l near = elim (leq_or g.arcs (V v)) [
    | inl out ↦ subst (λ x. g.arcs ≤ V x) (root v l near out).0 out
    | inr q ↦
        (let t = (tight v l near q).1 in
        has_root n (g.from (V v)) (omega (arith, t, few)) (ends (V v) q).0
        (tree.via v l near q).near)
  ]

  -- the start has no last arc
  pub start_is_root : g.arcs ≤ V s
  start_is_root = has_root (T s) s (omega arith) ls start_near

  pub start_at_origin : D s ≡ origin
  start_at_origin = (root s ls start_near start_is_root).1

  -- other nodes have one
  pub has_arc : (v : ℕ) → v < g.nodes → v ≢ s → D v < far → V v < g.arcs
  has_arc v l ne near = either (leq_or g.arcs (V v))
    where
      either : (g.arcs ≤ V v) ⊎ (V v < g.arcs) → V v < g.arcs
      either (inl out) = absurd (ne (root v l near out).0)
      either (inr q) = q

  -- going back along them leads to the start
  leads : (vias : ℕ → Option ℕ)
      → ((v : ℕ) → v < g.nodes → v ≢ s → D v < far → vias v ≡ Some (V v))
      → (n v : ℕ) → rank g.nodes T (T v) ≤ n → v < g.nodes → D v < far
      → leads_back g vias s n v ≡ true
  leads vias are zero v few l near =
      elim (eqb_tells v s) [
        | inl e ↦ rw e.0
        | inr e ↦
            (let q = has_arc v l e.1 near in
            let t = (tight v l near q).1 in
            let r = rank_less g.nodes T (g.from (V v)) (T v) (ends (V v) q).0 t in
            absurd (omega (arith, r, few)))
      ]
  leads vias are (suc n) v few l near =
      elim (eqb_tells v s) [
        | inl e ↦ rw e.0
        | inr e ↦
            (let q = has_arc v l e.1 near in
            let t = (tight v l near q).1 in
            let r = rank_less g.nodes T (g.from (V v)) (T v) (ends (V v) q).0 t in
            let on = leads vias are n (g.from (V v)) (omega (arith, r, few)) (ends (V v) q).0
            (tree.via v l near q).near in
            rw (e.0, are v l e.1 near) on)
      ]

  pub leads_to_start : (vias : ℕ → Option ℕ)
      → ((v : ℕ) → v < g.nodes → v ≢ s → D v < far → vias v ≡ Some (V v))
      → (v : ℕ) → v < g.nodes → D v < far → leads_back g vias s g.nodes v ≡ true
  leads_to_start vias are v l near =
      leads vias are g.nodes v (rank_few g.nodes T (T v)) l near

  -- no distance is higher than so many lengths
  high : ((k : ℕ) → k < g.arcs → len k ≤ 2 ^ 37) → (n v : ℕ) → rank g.nodes T (T v) ≤ n
      → v < g.nodes → D v < far → D v ≤ origin + shift * n
  high short zero v few l near = elim (eqb_tells v s) [
    | inl e ↦ (let here = ap D e.1 in let is = start_at_origin in omega (arith, here, is))
    | inr e ↦
        (let q = has_arc v l e.1 near in
        let t = (tight v l near q).1 in
        let r = rank_less g.nodes T (g.from (V v)) (T v) (ends (V v) q).0 t in
        absurd (omega (arith, r, few)))
  ]
  high short (suc n) v few l near = elim (eqb_tells v s) [
    | inl e ↦ (let here = ap D e.1 in let is = start_at_origin in omega (arith, here, is))
    | inr e ↦
        (let q = has_arc v l e.1 near in
        let t = tight v l near q in
        let same = t.0 in
        let r = rank_less g.nodes T (g.from (V v)) (T v) (ends (V v) q).0 t.1 in
        let below = high short n (g.from (V v)) (omega (arith, r, few)) (ends (V v) q).0
        (tree.via v l near q).near in
        let least = short (V v) q in
        omega (arith, below, least, same))
  ]

  pub distance_is_high : ((k : ℕ) → k < g.arcs → len k ≤ 2 ^ 37) → (v : ℕ) → v < g.nodes
      → D v < far → D v ≤ origin + shift * g.nodes
  distance_is_high short v l near = high short g.nodes v (rank_few g.nodes T (T v)) l near
