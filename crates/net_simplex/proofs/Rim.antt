-- The digraph of the task inside the network with the root: what the added arcs carry is what a
-- node's net flow lacks there.
use Rattle.std.proofs.Common.{◌≡◌, ◌≢◌, inl, inr, ℕ, zero, suc, ◌+◌, ◌<◌, false, eqb}
use Rattle.std.proofs.Common.{cond, ℤ, pos, ◌+ℤ◌, ◌-ℤ◌, sym, ap, ◌∙◌, arith}
use Rattle.std.proofs.lemmas.Int.{ints}
use Rattle.plain_certificates.specs.Numbered.{Numbered, sum_to, net}
use Rattle.plain_certificates.specs.Rooms.{Joins}
use Rattle.plain_certificates.proofs.Sums.{sum_to-same, sum_to-one}
use Rattle.plain_certificates.proofs.Weights.{at_end}
use Rattle.plain_certificates.proofs.Tables.{self_eqb, apart_eqb}
use Rattle.pivot_flow.specs.Tree.{Task}
use Rattle.net_simplex.specs.Network.{IsRooted, added}

-- a sum in two parts
pub sum_to-split : (m n : ℕ) (f : ℕ → ℤ)
    → sum_to (m + n) f ≡ sum_to m f +ℤ sum_to n (λ k. f (m + k))
sum_to-split m zero f = let e : m + zero ≡ m = omega arith in rw e (omega (arith, ints))
sum_to-split m (suc n) f =
    let e : m + suc n ≡ suc (m + n) = omega arith in
    rw e (let below = sum_to-split m n f in omega (arith, ints, below))

module _ (g : Numbered) (t : Task) (r : IsRooted g t) (x : ℕ → ℤ) where
  -- one end of the added arcs: that of v alone counts
  rim_end : (end : ℕ → ℕ) (v : ℕ) → v < g.nodes
      → ((u : ℕ) → u < g.nodes → u ≢ v → eqb (end (g.arcs + u)) v ≡ false)
      → sum_to g.nodes (λ u. cond (eqb (end (g.arcs + u)) v) (x (g.arcs + u)) (pos 0))
      ≡ cond (eqb (end (g.arcs + v)) v) (x (g.arcs + v)) (pos 0)
  rim_end end v l off =
      sum_to-one g.nodes v (λ u. cond (eqb (end (g.arcs + u)) v) (x (g.arcs + u)) (pos 0)) l
      (λ u q ne. rw (off u q ne))

  off_from : (v u : ℕ) → v < g.nodes → u < g.nodes → u ≢ v
      → eqb (t.net.from (g.arcs + u)) v ≡ false
  off_from v u l q ne = apart_eqb (t.net.from (g.arcs + u)) v (cases (r.rim u q))
    where
      cases : Joins t.net (g.arcs + u) u g.nodes → t.net.from (g.arcs + u) ≢ v
      cases (inl j) e = ne (sym j.0 ∙ e)
      cases (inr j) e = (let z : g.nodes ≡ v = sym j.0 ∙ e in absurd (omega (arith, z, l)))

  off_to : (v u : ℕ) → v < g.nodes → u < g.nodes → u ≢ v → eqb (t.net.to (g.arcs + u)) v ≡ false
  off_to v u l q ne = apart_eqb (t.net.to (g.arcs + u)) v (cases (r.rim u q))
    where
      cases : Joins t.net (g.arcs + u) u g.nodes → t.net.to (g.arcs + u) ≢ v
      cases (inl j) e = (let z : g.nodes ≡ v = sym j.1 ∙ e in absurd (omega (arith, z, l)))
      cases (inr j) e = ne (sym j.1 ∙ e)

  end_splits : (end inner : ℕ → ℕ) (v : ℕ) → v < g.nodes
      → ((k : ℕ) → k < g.arcs → end k ≡ inner k)
      → ((u : ℕ) → u < g.nodes → u ≢ v → eqb (end (g.arcs + u)) v ≡ false)
      → at_end t.net.arcs end x v
      ≡ at_end g.arcs inner x v +ℤ cond (eqb (end (g.arcs + v)) v) (x (g.arcs + v)) (pos 0)
  end_splits end inner v l same off =
      let part = λ (k : ℕ). cond (eqb (end k) v) (x k) (pos 0) in
      let count = ap (λ m. sum_to m part) r.arcs in
      let split = sum_to-split g.arcs g.nodes part in
      let inside = sum_to-same g.arcs part (λ k. cond (eqb (inner k) v) (x k) (pos 0))
      (λ k q. ap (λ e. cond (eqb e v) (x k) (pos 0)) (same k q)) in
      let rim = rim_end end v l off in
      omega (arith, ints, count, split, inside, rim)

  -- the net flow with the root is that without it, and what the added arc carries away
  pub net_rooted : (v : ℕ) → v < g.nodes → net t.net x v ≡ net g x v +ℤ added g t x v
  net_rooted v l =
      let out = end_splits t.net.from g.from v l r.from (λ u q ne. off_from v u l q ne) in
      let back = end_splits t.net.to g.to v l r.to (λ u q ne. off_to v u l q ne) in
      let rim = cases (r.rim v l) in
      omega (arith, ints, out, back, rim)
    where
      cases : Joins t.net (g.arcs + v) v g.nodes
          → cond (eqb (t.net.from (g.arcs + v)) v) (x (g.arcs + v)) (pos 0)
          -ℤ cond (eqb (t.net.to (g.arcs + v)) v) (x (g.arcs + v)) (pos 0) ≡ added g t x v
      cases (inl j) = (let off = apart_eqb g.nodes v (λ z. absurd (omega (arith, z, l))) in
          rw (j.0, j.1, self_eqb v, off) (omega (arith, ints)))
      cases (inr j) = (let off = apart_eqb g.nodes v (λ z. absurd (omega (arith, z, l))) in
          rw (j.0, j.1, self_eqb v, off) (omega (arith, ints)))
