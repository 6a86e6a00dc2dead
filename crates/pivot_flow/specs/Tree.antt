-- A network with a root, a spanning tree of it, and the flows and potentials that fit the tree.
use Rattle.std.specs.Prelude.{List, length, slice_index_or, ◌≡◌, ◌≢◌, ◌⊎◌, ℕ, ◌+◌, ◌-◌}
use Rattle.std.specs.Prelude.{◌<◌, ◌≤◌, ℤ, pos}
use Rattle.pivot_flow.specs.declared.look.Ends.{Ends}
use Rattle.plain_certificates.specs.Cheapest.{reduced_cost}
use Rattle.plain_certificates.specs.Forest.{Forest, IsOver}
use Rattle.plain_certificates.specs.Numbered.{Numbered, net}
use Rattle.plain_certificates.specs.Rooms.{Joins, room_to}

-- a network with an added root, and what each arc can carry at most
pub record Task : Type 0 where
  pub net : Numbered
  pub root : ℕ
  pub cap : ℕ → ℕ

-- of each node its parent, the arc that it hangs by, and its depth
pub record Tree : Type 0 where
  pub parent : ℕ → ℕ
  pub arc : ℕ → ℕ
  pub depth : ℕ → ℕ

-- a node that hangs
abbrev pub IsLow : Task → ℕ → Type 0
IsLow t v = (v < t.net.nodes) × (v ≢ t.root)

-- every node hangs, and going up from it leads to the root
pub record IsHung (t : Task) (h : Tree) : Type 0 where
  pub top : t.root < t.net.nodes
  pub top_depth : h.depth t.root ≡ 0
  pub parent : (v : ℕ) → IsLow t v → h.parent v < t.net.nodes
  pub arc : (v : ℕ) → IsLow t v → h.arc v < t.net.arcs
  pub joins : (v : ℕ) → IsLow t v → Joins t.net (h.arc v) v (h.parent v)
  pub falls : (v : ℕ) → IsLow t v → h.depth v ≡ h.depth (h.parent v) + 1

-- arc k is one of the tree
abbrev pub IsTreeArc : Task → Tree → ℕ → Type 0
IsTreeArc t h k = (v : ℕ) × (IsLow t v × (h.arc v ≡ k))

-- a flow that keeps to the task: each arc is at a bound or of the tree, and from the root something
-- can be sent to each node
pub record IsHeld (t : Task) (supply : ℕ → ℤ) (h : Tree) (f : ℕ → ℕ) : Type 0 where
  pub within : (k : ℕ) → k < t.net.arcs → f k ≤ t.cap k
  pub met : (v : ℕ) → v < t.net.nodes → net t.net (λ k. pos (f k)) v ≡ supply v
  pub rest : (k : ℕ) → k < t.net.arcs → ((f k ≡ 0) ⊎ (f k ≡ t.cap k)) ⊎ IsTreeArc t h k
  pub sends : (v : ℕ) → IsLow t v → 0 < room_to t.net t.cap f (h.arc v) v

-- potentials by which the arcs of the tree have the reduced cost 0
pub record IsPriced (t : Task) (cost : ℕ → ℤ) (h : Tree) (y : ℕ → ℤ) : Type 0 where
  pub top : y t.root ≡ pos 0
  pub zero : (v : ℕ) → IsLow t v → reduced_cost t.net cost y (h.arc v) ≡ pos 0

-- the tree without its arcs
abbrev pub forest_of : Tree → Forest
forest_of h = record { parent = h.parent; depth = h.depth }

-- going up the tree from u one comes to v
abbrev pub ComesTo : Tree → ℕ → ℕ → Type 0
ComesTo h u v = IsOver (forest_of h) u v

-- ---- the lists of a program as functions
abbrev pub at : List ℕ → ℕ → ℕ
at xs v = slice_index_or xs v 0

abbrev pub ends_at : List Ends → ℕ → Ends
ends_at es k = slice_index_or es k (record { from = 0; to = 0 })

-- the digraph with so many nodes and with arcs of these ends
abbrev pub graph_of : ℕ → List Ends → Numbered
graph_of n ends = record {
  nodes = n;
  arcs = length ends;
  from = λ k. (ends_at ends k).from;
  to = λ k. (ends_at ends k).to;
}

-- the root is the last node
abbrev pub task_of : ℕ → List Ends → List ℕ → Task
task_of n ends cap = record {
  net = graph_of n ends;
  root = n - 1;
  cap = at cap;
}

abbrev pub tree_of : List ℕ → List ℕ → List ℕ → Tree
tree_of parent arc depth = record { parent = at parent; arc = at arc; depth = at depth }
