-- Bounds of what the nodes have to send.
use Rattle.std.proofs.Common.{◌≡◌, ℕ, zero, suc, ◌+◌, ◌*◌, ◌<◌, ◌≤◌, ◌^◌, Bool, true, false, cond}
use Rattle.std.proofs.Common.{eqb, pos, ◌+ℤ◌, ◌*ℤ◌, ◌≤ℤ◌, refl, sym, ◌∙◌, arith}
use Rattle.std.proofs.lemmas.Int.{ints}
use Rattle.plain_certificates.proofs.Products.{one_times}
use Rattle.plain_certificates.proofs.Sums.{sum_to-same, sum_to-add, sum_to-le, sum_to-zero}
use Rattle.plain_certificates.proofs.Weights.{at_end, weighed_by_end}
use Rattle.plain_certificates.specs.Numbered.{Numbered, EndsAreNodes, sum_to}
use Rattle.plain_certificates.specs.Rooms.{as_flow}
use Rattle.task_bounds.specs.Excess.{weight}

pub sum_to-const : (n c : ℕ) → sum_to n (λ _. pos c) ≡ pos (n * c)
sum_to-const zero c = let e : 0 * c ≡ 0 = omega arith in rw e refl
sum_to-const (suc n) c =
    let rest = sum_to-const n c in
    let e : suc n * c ≡ n * c + c = grind arith in
    rw (e, rest) (omega (arith, ints))

chosen_most : (b : Bool) (x : ℕ) → (pos 0 ≤ℤ cond b (pos x) (pos 0))
    × (cond b (pos x) (pos 0) ≤ℤ pos x)
chosen_most true x = (omega (arith, ints), omega (arith, ints))
chosen_most false x = (omega (arith, ints), omega (arith, ints))

-- what is chosen of a sum is no more than the sum
pub at_end-most : (arcs : ℕ) (end x : ℕ → ℕ) (v : ℕ)
    → (pos 0 ≤ℤ at_end arcs end (as_flow x) v)
    × (at_end arcs end (as_flow x) v ≤ℤ sum_to arcs (as_flow x))
at_end-most arcs end x v = (
  (let low = sum_to-le arcs (λ k. pos 0) (λ k. cond (eqb (end k) v) (pos (x k)) (pos 0))
      (λ k _. (chosen_most (eqb (end k) v) (x k)).0) in
      let zero = sum_to-zero arcs (λ k. pos 0) (λ _ _. refl) in
      omega (arith, ints, low, zero)),
  sum_to-le arcs (λ k. cond (eqb (end k) v) (pos (x k)) (pos 0)) (as_flow x)
      (λ k _. (chosen_most (eqb (end k) v) (x k)).1),
)

-- each arc has one end of each kind
ends_total : (g : Numbered) (end : ℕ → ℕ) → ((k : ℕ) → k < g.arcs → end k < g.nodes)
    → sum_to g.nodes (λ v. at_end g.arcs end (λ _. pos (2 ^ 36)) v) ≡ pos (g.arcs * 2 ^ 36)
ends_total g end inside =
    sum_to-same g.nodes (λ v. at_end g.arcs end (λ _. pos (2 ^ 36)) v)
    (λ v. pos 1 *ℤ at_end g.arcs end (λ _. pos (2 ^ 36)) v)
    (λ v _. sym (one_times (at_end g.arcs end (λ _. pos (2 ^ 36)) v)))
    ∙ (weighed_by_end g.nodes g.arcs end (λ _. pos 1) (λ _. pos (2 ^ 36)) inside
    ∙ (sum_to-same g.arcs (λ k. pos 1 *ℤ pos (2 ^ 36)) (λ k. pos (2 ^ 36))
    (λ k _. one_times (pos (2 ^ 36)))
    ∙ sum_to-const g.arcs (2 ^ 36)))

pub total_weight : (g : Numbered) → EndsAreNodes g
    → sum_to g.nodes (weight g) ≡ pos (g.nodes * 2 ^ 36 + (g.arcs * 2 ^ 36 + g.arcs * 2 ^ 36))
total_weight g ends =
    let out = at_end g.arcs g.from (λ _. pos (2 ^ 36)) in
    let back = at_end g.arcs g.to (λ _. pos (2 ^ 36)) in
    let a = sum_to-add g.nodes (λ _. pos (2 ^ 36)) (λ v. out v +ℤ back v) in
    let b = sum_to-add g.nodes out back in
    let c = sum_to-const g.nodes (2 ^ 36) in
    let d = ends_total g g.from (λ k l. (ends k l).0) in
    let e = ends_total g g.to (λ k l. (ends k l).1) in
    omega (arith, ints, a, b, c, d, e)

pub weight_most : (g : Numbered) (v : ℕ) → g.arcs ≤ 2 ^ 22 → weight g v ≤ℤ pos (2 ^ 60)
weight_most g v few =
    let out = (at_end-most g.arcs g.from (λ _. 2 ^ 36) v).1 in
    let back = (at_end-most g.arcs g.to (λ _. 2 ^ 36) v).1 in
    let c = sum_to-const g.arcs (2 ^ 36) in
    omega (arith, ints, out, back, c, few)
