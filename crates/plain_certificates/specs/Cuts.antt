-- Largest flows from one node to another.
use Rattle.std.specs.Prelude.{◌≡◌, ◌≢◌, ℕ, ◌<◌, ◌&&◌, Bool, true, false, not, ℤ, pos, ◌≤ℤ◌}
use Rattle.plain_certificates.specs.Numbered.{Numbered, sum_where, net}

-- whether the arc leaves the set of nodes
abbrev pub leaves : Numbered → (ℕ → Bool) → ℕ → Bool
leaves g set arc = set (g.from arc) && not (set (g.to arc))

-- whether the arc enters it
abbrev pub enters : Numbered → (ℕ → Bool) → ℕ → Bool
enters g set arc = not (set (g.from arc)) && set (g.to arc)

-- a flow from s to t within the capacities
pub record IsFlow (g : Numbered) (cap : ℕ → ℤ) (s t : ℕ) (flow : ℕ → ℤ) : Type 0 where
  pub at_least_0 : (arc : ℕ) → arc < g.arcs → pos 0 ≤ℤ flow arc
  pub within_cap : (arc : ℕ) → arc < g.arcs → flow arc ≤ℤ cap arc
  pub kept : (node : ℕ) → node < g.nodes → node ≢ s → node ≢ t → net g flow node ≡ pos 0

-- a flow from s to t, and a set of nodes that no more than its value can leave
pub record IsCut (g : Numbered) (cap : ℕ → ℤ) (s t : ℕ) (flow : ℕ → ℤ) (side : ℕ → Bool)
    (value : ℤ) : Type 0 where
  pub is_flow : IsFlow g cap s t flow
  pub value_is : value ≡ net g flow s
  pub has_s : side s ≡ true
  pub lacks_t : side t ≡ false
  pub tight : value ≡ sum_where g.arcs (leaves g side) cap
