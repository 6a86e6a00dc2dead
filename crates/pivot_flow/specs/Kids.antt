-- The children of each node as lists through three links.
use Rattle.std.specs.Prelude.{◌≡◌, ◌≢◌, ℕ, ◌<◌, List, []}
use Rattle.pivot_flow.specs.Tree.{IsLow, Task, at, task_of}

-- of each node its first child, and its neighbours among the children of its parent; the root,
-- which is no child, stands for none
pub record Links : Type 0 where
  pub first : ℕ → ℕ
  pub next : ℕ → ℕ
  pub prev : ℕ → ℕ

-- the children of each node by their parents p, but for one node that stands in no list
pub record AreKidsBut (t : Task) (l : Links) (p : ℕ → ℕ) (out : ℕ) : Type 0 where
  pub nodes : (v : ℕ) → v < t.net.nodes → (l.first v < t.net.nodes)
      × ((l.next v < t.net.nodes) × (l.prev v < t.net.nodes))
  pub first : (u : ℕ) → u < t.net.nodes → l.first u ≢ t.root → (l.first u ≢ out)
      × ((p (l.first u) ≡ u) × (l.prev (l.first u) ≡ t.root))
  pub next : (v : ℕ) → IsLow t v → v ≢ out → l.next v ≢ t.root → (l.next v ≢ out)
      × ((p (l.next v) ≡ p v) × (l.prev (l.next v) ≡ v))
  pub prev : (v : ℕ) → IsLow t v → v ≢ out → l.prev v ≢ t.root → (l.prev v ≢ out)
      × (l.next (l.prev v) ≡ v)
  pub least : (v : ℕ) → IsLow t v → v ≢ out → l.prev v ≡ t.root → l.first (p v) ≡ v
  pub place : ℕ → ℕ
  pub grows : (v : ℕ) → IsLow t v → v ≢ out → l.prev v ≢ t.root → place (l.prev v) < place v

-- where each node but the root stands in a list: the root itself is out
abbrev pub AreKids : Task → Links → (ℕ → ℕ) → Type 0
AreKids t l p = AreKidsBut t l p t.root

-- ---- the lists of a program as functions
abbrev pub links_of : List ℕ → List ℕ → List ℕ → Links
links_of first next prev = record { first = at first; next = at next; prev = at prev }

-- the nodes alone
abbrev pub bare : ℕ → Task
bare n = task_of n [] []
