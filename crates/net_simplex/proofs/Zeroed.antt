-- Costs of 0.
use Rattle.std.proofs.Common.{◌≡◌, ℕ, ◌<◌, ℤ, pos, List, length, ap, ◌∙◌}
use Rattle.std.proofs.Common.{arith}
use Rattle.std.proofs.Math.ListN.{replicate}
use Rattle.std.proofs.lemmas.Int.{ints}
use Rattle.std.proofs.lemmas.List.{get_or-replicate, length-replicate}
use Rattle.plain_certificates.specs.Numbered.{Numbered}
use Rattle.plain_certificates.specs.Tables.{at}
use Rattle.net_simplex.proofs.Settled.{weighed_by}
use Rattle.net_simplex.specs.Network.{IsWeighed}
use Rattle.task_bounds.specs.Plan.{AreSmall}
use Rattle.net_simplex.specs.Weights.{AreWeights}

zero_at : (m k : ℕ) (zeros : List ℤ) → zeros ≡ replicate m (pos 0) → k < m
    → at (pos 0) zeros k ≡ pos 0
zero_at m k zeros is l =
    ap (λ xs. at (pos 0) xs k) is ∙ get_or-replicate m k (pos 0) (pos 0) l

are_zeros : (m : ℕ) (zeros : List ℤ) → zeros ≡ replicate m (pos 0) → AreSmall m zeros
are_zeros m zeros is = record {
  all = ap length is ∙ length-replicate m (pos 0);
  small = λ k l. (let none = zero_at m k zeros is l in
      (omega (arith, ints, none), omega (arith, ints, none)));
}

module _ (g : Numbered) (zeros weights : List ℤ) (is : zeros ≡ replicate g.arcs (pos 0))
    (w : AreWeights g.arcs g.nodes (at (pos 0) zeros) weights) where
  pub weighed_zero : IsWeighed g (at (pos 0) weights)
  weighed_zero = weighed_by g zeros weights (are_zeros g.arcs zeros is) w

  pub none_costs : (k : ℕ) → k < g.arcs → at (pos 0) weights k ≡ pos 0
  none_costs k l = w.inner k l ∙ zero_at g.arcs k zeros is l

-- costs of so many zeros are those of all arcs
pub weights_all : (g : Numbered) (lent zeros weights : List ℤ) (count : ℕ) → lent ≡ zeros
    → zeros ≡ replicate g.arcs (pos 0) → count ≡ g.nodes
    → AreWeights (length lent) count (at (pos 0) lent) weights
    → AreWeights g.arcs g.nodes (at (pos 0) zeros) weights
weights_all g lent zeros weights count lent_is is count_is w =
    let all = ap length is ∙ length-replicate g.arcs (pos 0) in
    rw (lent_is, all, count_is) at w
