-- A numbered digraph in the slices that the engine of flows reads.
use Rattle.std.specs.Prelude.{◌≡◌, ℕ, ◌+◌, ◌<◌, List, length}
use Rattle.plain_certificates.specs.Numbered.{Numbered, EndsAreNodes}
use Rattle.push_flow.specs.declared.push.Ends.{Ends}
use Rattle.push_flow.specs.declared.push.Spoke.{Spoke}
use Rattle.push_flow.specs.Slices.{at, ends_at, spoke_at, task_of, AreRows}

-- the slices have the ends of each arc, and for each node the arcs at it
pub record IsNetwork (g : Numbered) (ends : List Ends) (start : List ℕ) (row : List Spoke)
    : Type 0 where
  pub ends_all : length ends ≡ g.arcs
  pub ends_are : (arc : ℕ) → arc < g.arcs
      → ((ends_at ends arc).from ≡ g.from arc) × ((ends_at ends arc).to ≡ g.to arc)
  pub within : EndsAreNodes g
  pub starts_all : length start ≡ g.nodes + 1
  pub rows : (cap : List ℕ)
      → AreRows (task_of g.nodes ends cap) (at start) (spoke_at row) (length row)
