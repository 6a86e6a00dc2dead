-- The first tree.
use Rattle.std.specs.Prelude.{◌≡◌, ℕ, ◌+◌, ◌<◌, ◌≤◌, ℤ, pos, ◌-ℤ◌}
use Rattle.plain_certificates.specs.Rooms.{Joins}
use Rattle.pivot_flow.specs.Kids.{Links}
use Rattle.pivot_flow.specs.Tree.{Task, Tree}

-- the first tree: n nodes hang on the root, node v by the arc m + v, which carries something where
-- it leads to the root, and has room where it leads from it
pub record IsPlanted (t : Task) (cost : ℕ → ℤ) (h : Tree) (l : Links) (f : ℕ → ℕ) (y : ℕ
    → ℤ) (n m : ℕ) : Type 0 where
  pub root : t.root ≡ n
  pub nodes : t.net.nodes ≡ n + 1
  pub arcs : t.net.arcs ≡ m + n
  pub joins : (v : ℕ) → v < n → Joins t.net (m + v) v n
  pub parent : (v : ℕ) → v < n → h.parent v ≡ n
  pub arc : (v : ℕ) → v < n → h.arc v ≡ m + v
  pub depth : (v : ℕ) → v < n → h.depth v ≡ 1
  pub top : h.depth n ≡ 0
  pub within : (k : ℕ) → k < m + n → f k ≤ t.cap k
  pub still : (k : ℕ) → k < m → f k ≡ 0
  pub carries : (v : ℕ) → v < n → t.net.from (m + v) ≡ v → 0 < f (m + v)
  pub room : (v : ℕ) → v < n → t.net.from (m + v) ≡ n → f (m + v) < t.cap (m + v)
  pub top_price : y n ≡ pos 0
  pub price_up : (v : ℕ) → v < n → t.net.from (m + v) ≡ v → y v ≡ pos 0 -ℤ cost (m + v)
  pub price_down : (v : ℕ) → v < n → t.net.from (m + v) ≡ n → y v ≡ cost (m + v)
  pub first_top : l.first n ≡ 0
  pub first_low : (v : ℕ) → v < n → l.first v ≡ n
  pub next_low : (v : ℕ) → v < n → l.next v ≡ v + 1
  pub next_top : l.next n ≤ n
  pub prev_zero : 0 < n → l.prev 0 ≡ n
  pub prev_more : (v : ℕ) → v + 1 < n → l.prev (v + 1) ≡ v
  pub prev_top : l.prev n ≤ n
