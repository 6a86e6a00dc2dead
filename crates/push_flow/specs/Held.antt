-- Flows on their way: what each node has too much of or still wants, and how high it is.
use Rattle.std.specs.Prelude.{◌≡◌, ℕ, suc, ◌+◌, ◌-◌, ◌*◌, ◌<◌, ◌≤◌, ◌^◌, ℤ, pos, ◌+ℤ◌, ◌-ℤ◌}
use Rattle.plain_certificates.specs.Numbered.{Numbered, net}
use Rattle.plain_certificates.specs.Rooms.{Joins, room_from, as_flow}
use Rattle.plain_certificates.specs.Totals.{total_to}

-- a numbered digraph with the capacities of its arcs
pub record Task : Type 0 where
  pub graph : Numbered
  pub cap : ℕ → ℕ

-- no excess is above this
abbrev pub most : ℕ
most = 2 ^ 62

-- what a node has to do yet: to rise to the top, and to send its excess down
abbrev pub weight : ℕ → ℕ → ℕ → ℕ
weight n e h = (n - h) * suc most + e * h

-- what all nodes together have to do yet
abbrev pub toil : ℕ → (ℕ → ℕ) → (ℕ → ℕ) → ℕ
toil n e h = total_to n (λ v. weight n (e v) (h v))

-- what a node sends out in all, and the most that it wants
pub record Supply : Type 0 where
  pub sends : ℤ
  pub wants : ℕ

-- a flow within the capacities, with the excess and the want that it leaves at each node, and
-- heights that no arc with room falls down by more than one
pub record IsHeld (t : Task) (supply : ℕ → Supply) (f e w h : ℕ → ℕ) : Type 0 where
  pub within : (k : ℕ) → k < t.graph.arcs → f k ≤ t.cap k
  pub balance : (v : ℕ) → v < t.graph.nodes
      → net t.graph (as_flow f) v +ℤ pos (e v) ≡ (supply v).sends +ℤ pos (w v)
  pub owed : (v : ℕ) → v < t.graph.nodes → w v ≤ (supply v).wants
  pub small : total_to t.graph.nodes e ≤ most
  pub high : (v : ℕ) → v < t.graph.nodes → h v ≤ t.graph.nodes
  pub wants : (v : ℕ) → v < t.graph.nodes → 0 < w v → h v ≡ 0
  pub apart : (v : ℕ) → v < t.graph.nodes → 0 < e v → w v ≡ 0
  pub gentle : (k v u : ℕ) → k < t.graph.arcs → Joins t.graph k v u
      → 0 < room_from t.graph t.cap f k v → h v ≤ h u + 1

-- what a flow with its excess and want supplies
abbrev pub supply_of : Task → (ℕ → ℕ) → (ℕ → ℕ) → (ℕ → ℕ) → ℕ → Supply
supply_of t f e w v = record {
  sends = (net t.graph (as_flow f) v +ℤ pos (e v)) -ℤ pos (w v);
  wants = w v;
}
