-- Cycles of the least mean or ratio, and orders that leave no cycle.
use Rattle.std.specs.Prelude.{◌≡◌, ℕ, ◌<◌, ℤ, pos, ◌+ℤ◌, ◌-ℤ◌, ◌*ℤ◌, ◌≤ℤ◌, List, IsPermutation}
use Rattle.std.specs.List.{range_with_len}
use Rattle.plain_certificates.specs.Numbered.{Numbered}
use Rattle.plain_certificates.specs.Walks.{along, IsCycle}
use Rattle.plain_certificates.specs.Tables.{place_of}

-- the cost of the arc by the ratio of the totals, seen from the potentials of its ends
abbrev pub scaled_cost : Numbered → (ℕ → ℤ) → (ℕ → ℤ) → ℤ → ℤ → (ℕ → ℤ) → ℕ → ℤ
scaled_cost g length time total times pi arc =
    ((times *ℤ length arc -ℤ total *ℤ time arc) +ℤ pi (g.from arc)) -ℤ pi (g.to arc)

-- a cycle of this length and time, and potentials by which no arc gains on their ratio
pub record IsLeastMean (g : Numbered) (length time : ℕ → ℤ) (cycle : List ℕ) (pi : ℕ → ℤ)
    (total times : ℤ) : Type 0 where
  pub is_cycle : IsCycle g cycle
  pub total_is : total ≡ along length cycle
  pub times_is : times ≡ along time cycle
  pub first_is_0 : pi 0 ≡ pos 0
  pub no_less : (arc : ℕ) → arc < g.arcs → pos 0 ≤ℤ scaled_cost g length time total times pi arc

-- each node once, and each arc goes on in the order
pub record IsAcyclic (g : Numbered) (order : List ℕ) : Type 0 where
  pub whole : IsPermutation order (range_with_len 0 g.nodes)
  pub onward : (arc : ℕ) → arc < g.arcs
      → place_of order (g.from arc) < place_of order (g.to arc)
