-- The network of a task: its digraph with an added root, which has an open arc to or from each
-- node, and the state that a run leaves.
use Rattle.std.specs.Prelude.{◌≡◌, ℕ, ◌+◌, ◌<◌, ◌^◌, ◌==◌, cond, ℤ, pos, neg_ℤ}
use Rattle.std.specs.Prelude.{◌≤ℤ◌, ◌<ℤ◌}
use Rattle.plain_certificates.specs.Numbered.{Numbered, EndsAreNodes}
use Rattle.plain_certificates.specs.Feasible.{Bounds}
use Rattle.plain_certificates.specs.Rooms.{Joins}
use Rattle.task_bounds.specs.Given.{IsSpan}
use Rattle.pivot_flow.specs.Open.{IsOpenFree, most_of}
use Rattle.pivot_flow.specs.State.{IsState}
use Rattle.pivot_flow.specs.Tree.{Task, Tree}

-- the network is the digraph with a root, which has an arc to or from each node
pub record IsRooted (g : Numbered) (t : Task) : Type 0 where
  pub root : t.root ≡ g.nodes
  pub nodes : t.net.nodes ≡ g.nodes + 1
  pub arcs : t.net.arcs ≡ g.arcs + g.nodes
  pub from : (k : ℕ) → k < g.arcs → t.net.from k ≡ g.from k
  pub to : (k : ℕ) → k < g.arcs → t.net.to k ≡ g.to k
  pub rim : (v : ℕ) → v < g.nodes → Joins t.net (g.arcs + v) v g.nodes

-- the capacities are the rooms between the bounds
pub record IsNetwork (g : Numbered) (bounds : Bounds) (t : Task) : Type 0 where
  pub rooted : IsRooted g t
  pub ends : EndsAreNodes g
  pub spans : (k : ℕ) → k < g.arcs → IsSpan (bounds.lower k) (bounds.upper k) (t.cap k)
  pub rim_open : (v : ℕ) → v < g.nodes → t.cap (g.arcs + v) ≡ 2 ^ 62

-- costs within 2^36 of 0, and 2^57 on the added arcs
pub record IsWeighed (g : Numbered) (cost : ℕ → ℤ) : Type 0 where
  pub least : (k : ℕ) → k < g.arcs → neg_ℤ (pos (2 ^ 36)) ≤ℤ cost k
  pub most : (k : ℕ) → k < g.arcs → cost k ≤ℤ pos (2 ^ 36)
  pub rim : (v : ℕ) → v < g.nodes → cost (g.arcs + v) ≡ pos (2 ^ 57)

-- what the added arc of a node carries away from it
abbrev pub added : Numbered → Task → (ℕ → ℤ) → ℕ → ℤ
added g t flow node =
    cond (t.net.from (g.arcs + node) == node) (flow (g.arcs + node))
    (neg_ℤ (flow (g.arcs + node)))

-- a state in which each node below the root sends so much, and all together little
pub record IsRunning (g : Numbered) (excess : ℕ → ℤ) (t : Task) (cost : ℕ → ℤ) (h : Tree)
    (f : ℕ → ℕ) (y : ℕ → ℤ) : Type 0 where
  pub sends : ℕ → ℤ
  pub sends_are : (v : ℕ) → v < g.nodes → sends v ≡ excess v
  pub state : IsState t sends cost h f y
  pub free : IsOpenFree t f (2 ^ 37)
  pub size : ℕ → ℤ
  pub sized : (v : ℕ) → v < t.net.nodes → (neg_ℤ (size v) ≤ℤ sends v) × (sends v ≤ℤ size v)
  pub light : most_of t size (2 ^ 37) <ℤ pos (2 ^ 61)
