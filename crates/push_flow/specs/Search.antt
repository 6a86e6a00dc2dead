-- How far a look at a node's arcs, and a search from the nodes that want, have come.
use Rattle.std.specs.Prelude.{◌≡◌, ℕ, ◌+◌, ◌<◌, ◌≤◌, ◌==◌, Bool}
use Rattle.plain_certificates.specs.Rooms.{Joins, room_from, room_to}
use Rattle.push_flow.specs.declared.push.Spoke.{Spoke}
use Rattle.push_flow.specs.Held.{Task, Supply, IsHeld, toil}

-- the arcs at v before place p were looked at: none of them leads lower with room left, and v can
-- rise to `least`
pub record IsScan (t : Task) (supply : ℕ → Supply) (start : ℕ → ℕ) (row : ℕ → Spoke)
    (f e w h : ℕ → ℕ) (v p least work : ℕ) : Type 0 where
  pub held : IsHeld t supply f e w h
  pub passed : (q : ℕ) → start v ≤ q → q < p
      → 0 < room_from t.graph t.cap f (row q).arc v → least ≤ h (row q).far + 1
  pub above : h v < least
  pub high : least ≤ t.graph.nodes
  pub has : 0 < e v
  pub begun : start v ≤ p
  pub falls : toil t.graph.nodes e h ≤ work

-- a breadth first search over the arcs with room to what was reached: q has the nodes reached,
-- `tail` of them, the arcs of the first `head` were looked at, and `found` has excess
pub record IsWave (t : Task) (f e w h₀ h q : ℕ → ℕ) (found head tail : ℕ) : Type 0 where
  pub place : ℕ → ℕ
  pub ordered : head ≤ tail
  pub listed : (k : ℕ) → k < tail → (q k < t.graph.nodes) × (place (q k) ≡ k)
  pub low : (k : ℕ) → k < tail → (h (q k) ≤ k) × (h (q k) < t.graph.nodes)
  pub queued : (v : ℕ) → v < t.graph.nodes → h v < t.graph.nodes
      → (place v < tail) × (q (place v) ≡ v)
  pub sorted : (i j : ℕ) → i ≤ j → j < tail → h (q i) ≤ h (q j)
  pub span : (k : ℕ) → head < tail → k < tail → h (q k) ≤ h (q head) + 1
  pub done : (k j x : ℕ) → k < head → j < t.graph.arcs → x < t.graph.nodes
      → Joins t.graph j x (q k) → 0 < room_from t.graph t.cap f j x
      → (h x ≤ h (q k) + 1) × (h x < t.graph.nodes)
  pub old : (v : ℕ) → v < t.graph.nodes → h₀ v ≤ h v
  pub high : (v : ℕ) → v < t.graph.nodes → h v ≤ t.graph.nodes
  pub wants : (v : ℕ) → v < t.graph.nodes → 0 < w v → h v ≡ 0
  pub hit : found < t.graph.nodes → (0 < e found) × (h found < t.graph.nodes)
  pub quiet : t.graph.nodes ≤ found → (k : ℕ) → k < head → e (q k) ≡ 0

-- the arcs to the node at `head` before place p were looked at
pub record IsReach (t : Task) (start : ℕ → ℕ) (row : ℕ → Spoke) (f e w h₀ h q : ℕ → ℕ)
    (found head tail p : ℕ) : Type 0 where
  pub wave : IsWave t f e w h₀ h q found head tail
  pub inside : head < tail
  pub begun : start (q head) ≤ p
  pub passed : (i : ℕ) → start (q head) ≤ i → i < p
      → 0 < room_to t.graph t.cap f (row i).arc (q head)
      → (h (row i).far ≤ h (q head) + 1) × (h (row i).far < t.graph.nodes)

-- the nodes before v were dealt with: those that want are at height 0 and in q, the others at n
pub record AreRoots (n : ℕ) (w h q : ℕ → ℕ) (v tail : ℕ) : Type 0 where
  pub place : ℕ → ℕ
  pub ordered : tail ≤ v
  pub listed : (k : ℕ) → k < tail → (q k < v) × (place (q k) ≡ k) × (h (q k) ≡ 0)
  pub wanting : (x : ℕ) → x < v → 0 < w x → (h x ≡ 0) × (place x < tail) × (q (place x) ≡ x)
  pub others : (x : ℕ) → x < v → w x ≡ 0 → h x ≡ n

-- what is below the top is shut off: no arc with room leads to it from the top
abbrev pub IsShut : Task → (ℕ → ℕ) → (ℕ → ℕ) → Type 0
IsShut t f h =
    (k x u : ℕ) → k < t.graph.arcs → x < t.graph.nodes → u < t.graph.nodes → Joins t.graph k x u
    → 0 < room_from t.graph t.cap f k x → h u < t.graph.nodes → h x < t.graph.nodes

-- whether the node is at the top, from where nothing that wants can be reached
abbrev pub side_of : ℕ → (ℕ → ℕ) → ℕ → Bool
side_of n h v = h v == n
