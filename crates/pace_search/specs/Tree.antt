-- Distances and last arcs of a search from several nodes at once, over any digraph. Distances are
-- kept without a sign: 2^60 stands for 0, and 2^36 is added to each length.
use Rattle.std.specs.Prelude.{◌≡◌, ℕ, ◌+◌, ◌<◌, ◌≤◌, ◌^◌, List, [], ◌∷◌}
use Rattle.plain_certificates.specs.Numbered.{Numbered}
use Rattle.plain_certificates.specs.Walks.{IsWalk}

-- no distance is as high
abbrev pub far : ℕ
far = 2 ^ 62

-- what stands for a distance of 0
abbrev pub origin : ℕ
origin = 2 ^ 60

-- what is added to each length
abbrev pub shift : ℕ
shift = 2 ^ 36

-- the arc comes to the node from one with a distance, which has become less or was written before
pub record IsTreeArc (g : Numbered) (len D T : ℕ → ℕ) (v k : ℕ) : Type 0 where
  pub ends : g.to k ≡ v
  pub near : D (g.from k) < far
  pub enough : D (g.from k) + len k ≤ D v + shift
  pub before : D v + shift ≤ D (g.from k) + len k → T (g.from k) < T v

-- a walk leads to the node from one that began with a distance
pub record IsReached (g : Numbered) (first : ℕ → ℕ) (v : ℕ) : Type 0 where
  pub start : ℕ
  pub inside : start < g.nodes
  pub begins : first start < far
  pub arcs : List ℕ
  pub walk : IsWalk g start arcs v

-- D are the distances, V the last arcs, T the turns in which nodes were written, and first are the
-- distances with which nodes began
pub record IsTree (g : Numbered) (len first D V T : ℕ → ℕ) (clock : ℕ) : Type 0 where
  pub below : (v : ℕ) → D v ≤ first v
  pub root : (v : ℕ) → v < g.nodes → D v < far → g.arcs ≤ V v → D v ≡ first v
  pub via : (v : ℕ) → v < g.nodes → D v < far → V v < g.arcs → IsTreeArc g len D T v (V v)
  pub turns : (v : ℕ) → T v ≤ clock
  pub reached : (v : ℕ) → v < g.nodes → D v < far → IsReached g first v

-- no arc leads nearer
abbrev pub AreRelaxed : Numbered → (ℕ → ℕ) → (ℕ → ℕ) → Type 0
AreRelaxed g len D =
    (k : ℕ) → k < g.arcs → D (g.from k) < far → D (g.to k) + shift ≤ D (g.from k) + len k

-- each arc is the last one of its target, which has a distance
abbrev pub AreLast : Numbered → (ℕ → ℕ) → (ℕ → ℕ) → List ℕ → Type 0
AreLast g D V [] = Unit {0}
AreLast g D V (k ∷ arcs) = (V (g.to k) ≡ k) × (D (g.to k) < far) × AreLast g D V arcs
