-- The cost falls by what the entering arc saves.
use Rattle.std.proofs.Common.{◌≡◌, ◌≢◌, ◌⊎◌, inl, inr, ℕ, ◌+◌, ◌-◌, ◌<◌, ◌≤◌, Bool}
use Rattle.std.proofs.Common.{true, false, cond, ℤ, pos, neg_ℤ, ◌+ℤ◌, ◌-ℤ◌, ◌*ℤ◌}
use Rattle.std.proofs.Common.{sym, ◌∙◌, ap, arith}
use Rattle.std.proofs.lemmas.Int.{ints}
use Rattle.std.proofs.Math.IntN.{zero-*ℤ, *ℤ-zero}
use Rattle.plain_certificates.proofs.Products.{add-mul, mul-sub, neg-mul}
use Rattle.plain_certificates.proofs.Sums.{sum_to-add, sum_to-one, sum_to-same, sum_to-sub}
use Rattle.plain_certificates.proofs.Weights.{weighed}
use Rattle.plain_certificates.specs.Cheapest.{cost_of, reduced_cost}
use Rattle.plain_certificates.specs.Numbered.{EndsAreNodes, Numbered, net, sum_to}
use Rattle.pivot_flow.specs.State.{sends_of, total_of}
use Rattle.pivot_flow.specs.Tree.{IsPriced, IsTreeArc, Task, Tree}

-- ---- what is sent along the entering arc and round the tree changes the cost by its reduced cost
parts_of : (g : Numbered) (cost y x : ℕ → ℤ)
    → sum_to g.arcs (λ k. reduced_cost g cost y k *ℤ x k) ≡ cost_of g cost x
    +ℤ sum_to g.arcs (λ k. (y (g.from k) -ℤ y (g.to k)) *ℤ x k)
parts_of g cost y x =
    sum_to-same g.arcs (λ k. reduced_cost g cost y k *ℤ x k)
    (λ k. cost k *ℤ x k +ℤ (y (g.from k) -ℤ y (g.to k)) *ℤ x k)
    (λ k _. ap (λ z. z *ℤ x k) (regroup (cost k) (y (g.from k)) (y (g.to k)))
    ∙ add-mul (cost k) (y (g.from k) -ℤ y (g.to k)) (x k))
    ∙ sum_to-add g.arcs (λ k. cost k *ℤ x k) (λ k. (y (g.from k) -ℤ y (g.to k)) *ℤ x k)
  where
    regroup : (c a b : ℤ) → (c +ℤ a) -ℤ b ≡ c +ℤ (a -ℤ b)
    regroup c a b = omega (arith, ints)

pub cost_changed : (t : Task) (cost : ℕ → ℤ) (h : Tree) (f f' : ℕ → ℕ) (y : ℕ → ℤ) (e : ℕ)
    → EndsAreNodes t.net → IsPriced t cost h y → e < t.net.arcs →
    ((v : ℕ) → v < t.net.nodes → sends_of t f' v ≡ sends_of t f v)
    → ((k : ℕ) → k < t.net.arcs → k ≢ e → (f' k ≡ f k) ⊎ IsTreeArc t h k) →
    total_of t cost f' -ℤ total_of t cost f ≡ reduced_cost t.net cost y e
    *ℤ (pos (f' e) -ℤ pos (f e))
cost_changed t cost h f f' y e shape pr le met same =
    let g = t.net in
    let x = λ (k : ℕ). pos (f k) in
    let x' = λ (k : ℕ). pos (f' k) in
    let a = parts_of g cost y x in
    let b = parts_of g cost y x' in
    let wa = weighed g y x shape in
    let wb = weighed g y x' shape in
    let w = sum_to-same g.nodes (λ v. y v *ℤ net g x' v) (λ v. y v *ℤ net g x v)
    (λ v l. ap (λ z. y v *ℤ z) (met v l)) in
    let sub = sum_to-sub g.arcs (λ k. reduced_cost g cost y k *ℤ x' k)
    (λ k. reduced_cost g cost y k *ℤ x k) in
    let one = sum_to-one g.arcs e (λ k. reduced_cost g cost y k *ℤ x' k -ℤ reduced_cost g cost y k
    *ℤ x k) le
    (λ k l ne. elim (same k l ne) [
      | inl q ↦ rw q (self_minus (reduced_cost g cost y k *ℤ x k))
      | inr q ↦ (let z : reduced_cost g cost y k ≡ pos 0 = ap (reduced_cost g cost y) (sym q.1.1)
          ∙ pr.zero q.0 q.1.0 in no_cost (reduced_cost g cost y k) (x' k) (x k) z)
    ]) in
    let m = mul-sub (reduced_cost g cost y e) (x' e) (x e) in
    omega (arith, ints, a, b, wa, wb, w, sub, one, m)
  where
    self_minus : (z : ℤ) → z -ℤ z ≡ pos 0
    self_minus z = omega (arith, ints)

    no_cost : (r a b : ℤ) → r ≡ pos 0 → r *ℤ a -ℤ r *ℤ b ≡ pos 0
    no_cost r a b z = (let p = ap (λ u. u *ℤ a) z ∙ zero-*ℤ a in let q = ap (λ u. u *ℤ b) z
        ∙ zero-*ℤ b in omega (arith, ints, p, q))

pub saves : (b : Bool) (r : ℤ) (x s : ℕ) → s ≤ cond b s x
    → r *ℤ (pos (cond b (x + s) (x - s)) -ℤ pos x) ≡ neg_ℤ (cond b (neg_ℤ r) r *ℤ pos s)
saves true r x s l =
    let d : pos (x + s) -ℤ pos x ≡ pos s = omega (arith, ints) in
    let n = neg-mul r (pos s) in
    ap (λ z. r *ℤ z) d ∙ omega (arith, ints, n)
saves false r x s l =
    let d : pos (x - s) -ℤ pos x ≡ pos 0 -ℤ pos s = omega (arith, ints, l) in
    let m = mul-sub r (pos 0) (pos s) in
    let z = *ℤ-zero r in
    ap (λ q. r *ℤ q) d ∙ omega (arith, ints, m, z)
