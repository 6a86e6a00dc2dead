-- The state of a search that settles node after node, the nearest first.
use Rattle.std.specs.Prelude.{◌≡◌, ◌≢◌, ◌⊎◌, ℕ, ◌+◌, ◌*◌, ◌<◌, ◌≤◌, ◌^◌, Bool, true, ◌==◌, ◌&&◌}
use Rattle.std.specs.Prelude.{List, All}
use Rattle.std.specs.List.{list_any}
use Rattle.plain_certificates.specs.Numbered.{Numbered}
use Rattle.pace_search.specs.Tree.{far}

-- whether a queue has an entry of the node at this key
abbrev pub queues : List (ℕ × ℕ) → ℕ → ℕ → Bool
queues q d v = list_any (λ e. (e.0 == d) && (e.1 == v)) q

-- the node's arc V comes from a settled node, which was settled before it
pub record IsVia (g : Numbered) (len : ℕ → ℕ) (D V T : ℕ → ℕ) (v : ℕ) : Type 0 where
  pub within : V v < g.arcs
  pub ends : g.to (V v) ≡ v
  pub settled : 0 < T (g.from (V v))
  pub before : 0 < T v → T (g.from (V v)) < T v
  pub tight : D v ≡ D (g.from (V v)) + len (V v)

-- arcs P are relaxed; D are the distances, V the last arcs, T the turns in which nodes were settled
-- and 0 for open ones; the keys of the queue are from the floor to the reach
pub record IsSearch (g : Numbered) (len : ℕ → ℕ) (s : ℕ) (P : ℕ → Type 0) (D V T : ℕ → ℕ)
    (count floor reach : ℕ) (q : List (ℕ × ℕ)) : Type 0 where
  pub start : D s ≡ 0
  pub source : (k : ℕ) → P k → 0 < T (g.from k)
  pub relaxed : (k : ℕ) → k < g.arcs → P k → D (g.to k) ≤ D (g.from k) + len k
  pub queued : (v : ℕ) → v < g.nodes → T v ≡ 0 → D v < far → queues q (D v) v ≡ true
  pub named : All (λ e. e.1 < g.nodes) q
  pub above : All (λ e. D e.1 ≤ e.0) q
  pub high : All (λ e. floor ≤ e.0) q
  pub low : All (λ e. e.0 ≤ reach) q
  pub settled : (v : ℕ) → 0 < T v → D v ≤ floor
  pub via : (v : ℕ) → v < g.nodes → v ≢ s → D v < far → IsVia g len D V T v
  pub turns : (v : ℕ) → T v ≤ count
  pub short : (v : ℕ) → D v < far → D v ≤ reach

-- each node with a distance was settled and has a last arc, and no arc leads further
pub record IsFound (g : Numbered) (len : ℕ → ℕ) (s : ℕ) (D V T : ℕ → ℕ) : Type 0 where
  pub start : D s ≡ 0
  pub each : (k : ℕ) → k < g.arcs → g.from k < g.nodes → D (g.from k) < far
      → D (g.to k) ≤ D (g.from k) + len k
  pub via : (v : ℕ) → v < g.nodes → v ≢ s → D v < far → IsVia g len D V T v
  pub settled : (v : ℕ) → v < g.nodes → D v < far → 0 < T v
  pub turns : (v : ℕ) → T v ≤ g.nodes
  pub short : (v : ℕ) → D v < far → D v ≤ 2 ^ 36 * g.nodes

-- ---- rows

-- a row has the arcs from its node, and no others
pub record IsRow (g : Numbered) (v : ℕ) (row : List ℕ) : Type 0 where
  pub from_it : All (λ k. (k < g.arcs) × (g.from k ≡ v)) row
  pub whole : (k : ℕ) → k < g.arcs → g.from k ≡ v → list_any (λ x. x == k) row ≡ true

-- the arcs that are relaxed while the row of u is gone through
abbrev pub Done : Numbered → (ℕ → ℕ) → ℕ → List ℕ → ℕ → Type 0
Done g T u row j = (0 < T (g.from j)) × ((g.from j ≢ u) ⊎ (list_any (λ x. x == j) row ≡ true))

-- the arcs that are relaxed between two rows
abbrev pub Settled : Numbered → (ℕ → ℕ) → ℕ → Type 0
Settled g T k = 0 < T (g.from k)
