-- The slices of a program as functions of the number, and as a digraph with its rows.
use Rattle.std.specs.Prelude.{◌≡◌, ℕ, ◌+◌, ◌<◌, ◌≤◌, List, length, slice_index_or}
use Rattle.plain_certificates.specs.Numbered.{Numbered}
use Rattle.plain_certificates.specs.Rooms.{Joins}
use Rattle.push_flow.specs.declared.push.Ends.{Ends}
use Rattle.push_flow.specs.declared.push.Spoke.{Spoke}
use Rattle.push_flow.specs.Held.{Task}

-- the number at a place, and 0 past the end
abbrev pub at : List ℕ → ℕ → ℕ
at numbers v = slice_index_or numbers v 0

-- the ends of an arc
abbrev pub ends_at : List Ends → ℕ → Ends
ends_at ends k = slice_index_or ends k (record { from = 0; to = 0 })

-- the arc and the other end at a place of the rows
abbrev pub spoke_at : List Spoke → ℕ → Spoke
spoke_at spokes p = slice_index_or spokes p (record { arc = 0; far = 0 })

-- the digraph with so many nodes and with arcs of these ends
abbrev pub graph_of : ℕ → List Ends → Numbered
graph_of n ends = record {
  nodes = n;
  arcs = length ends;
  from = λ k. (ends_at ends k).from;
  to = λ k. (ends_at ends k).to;
}

-- and with these capacities
abbrev pub task_of : ℕ → List Ends → List ℕ → Task
task_of n ends cap = record { graph = graph_of n ends; cap = at cap }

-- the numbers in a list are nodes
abbrev pub AreNodes : ℕ → List ℕ → Type 0
AreNodes n numbers = (i : ℕ) → i < length numbers → at numbers i < n

-- the row of each node, from `start` of it to `start` of the next, has the arcs that it is an end
-- of, each with its other end
pub record AreRows (t : Task) (start : ℕ → ℕ) (row : ℕ → Spoke) (size : ℕ) : Type 0 where
  pub rises : (v : ℕ) → v < t.graph.nodes → (start v ≤ start (v + 1)) × (start (v + 1) ≤ size)
  pub inside : (v p : ℕ) → v < t.graph.nodes → start v ≤ p → p < start (v + 1)
      → ((row p).arc < t.graph.arcs) × ((row p).far < t.graph.nodes)
      × Joins t.graph (row p).arc v (row p).far
  pub place : ℕ → ℕ → ℕ
  pub found : (k v u : ℕ) → k < t.graph.arcs → v < t.graph.nodes → Joins t.graph k v u
      → (start v ≤ place k v) × (place k v < start (v + 1))
      × ((row (place k v)).arc ≡ k) × ((row (place k v)).far ≡ u)
