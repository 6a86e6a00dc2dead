-- The state between two pivots, and how far it is from the last one.
use Rattle.std.specs.Prelude.{◌≢◌, ℕ, ◌+◌, ◌<◌, ◌≤◌, ◌^◌, ℤ, pos, negsuc, neg_ℤ, ◌*ℤ◌, ◌≤ℤ◌}
use Rattle.std.specs.Prelude.{Some}
use Rattle.plain_certificates.specs.Cheapest.{cost_of}
use Rattle.plain_certificates.specs.Feasible.{Bounds}
use Rattle.plain_certificates.specs.Measures.{height}
use Rattle.plain_certificates.specs.Numbered.{net, sum_to}
use Rattle.pivot_flow.specs.Tree.{IsHeld, IsHung, IsPriced, Task, Tree}

-- what the nodes send by a flow
abbrev pub sends_of : Task → (ℕ → ℕ) → ℕ → ℤ
sends_of t f v = net t.net (λ k. pos (f k)) v

-- flows from 0 to the capacities, and what the nodes are to send
abbrev pub cap_bounds : Task → (ℕ → ℤ) → Bounds
cap_bounds t supply = record {
  lower = λ k. pos 0;
  upper = λ k. Some (pos (t.cap k));
  supply = supply;
}

-- costs that are small but at the root
pub record IsCosted (t : Task) (cost : ℕ → ℤ) : Type 0 where
  pub nodes : t.net.nodes ≤ 2 ^ 20 + 1
  pub least : (k : ℕ) → k < t.net.arcs → neg_ℤ (pos (2 ^ 57)) ≤ℤ cost k
  pub most : (k : ℕ) → k < t.net.arcs → cost k ≤ℤ pos (2 ^ 57)
  pub least_inside : (k : ℕ) → k < t.net.arcs → t.net.from k ≢ t.root → t.net.to k ≢ t.root
      → neg_ℤ (pos (2 ^ 36)) ≤ℤ cost k
  pub most_inside : (k : ℕ) → k < t.net.arcs → t.net.from k ≢ t.root → t.net.to k ≢ t.root
      → cost k ≤ℤ pos (2 ^ 36)

-- the state between two pivots
pub record IsState (t : Task) (supply cost : ℕ → ℤ) (h : Tree) (f : ℕ → ℕ) (y : ℕ → ℤ) : Type 0
  where
    pub hung : IsHung t h
    pub held : IsHeld t supply h f
    pub priced : IsPriced t cost h y

-- ---- how far a state is from the last one: first by its cost, then by the sum of the potentials
abbrev pub least_of : ℤ → ℕ → ℤ
least_of (pos n) u = pos 0
least_of (negsuc n) u = negsuc n *ℤ pos u

abbrev pub floor_of : Task → (ℕ → ℤ) → ℤ
floor_of t cost = sum_to t.net.arcs (λ k. least_of (cost k) (t.cap k))

abbrev pub total_of : Task → (ℕ → ℤ) → (ℕ → ℕ) → ℤ
total_of t cost f = cost_of t.net cost (λ k. pos (f k))

abbrev pub reach_of : Task → ℤ
reach_of t = sum_to t.net.nodes (λ v. pos (2 ^ 58))

-- the measure that falls with each pivot
abbrev pub height_of : Task → (ℕ → ℤ) → (ℕ → ℕ) → (ℕ → ℤ) → ℕ
height_of t cost f y = height (floor_of t cost) (reach_of t) (total_of t cost f)
    (sum_to t.net.nodes y)
