-- How a run begins: what its lists have.
use Rattle.std.specs.Prelude.{◌≡◌, ◌⊎◌, ℕ, ◌+◌, ◌<◌, ◌≤◌, ◌^◌, ℤ, pos, neg_ℤ, ◌≤ℤ◌}
use Rattle.std.specs.Prelude.{◌<ℤ◌, List, length}
use Rattle.plain_certificates.specs.Numbered.{Numbered}
use Rattle.pivot_flow.specs.Spread.{price_at}
use Rattle.pivot_flow.specs.Tree.{at, ends_at}
use Rattle.pivot_flow.specs.declared.look.Ends.{Ends}

-- the added arc of a node that has something to send carries it to the root
pub record IsOut (root v : ℕ) (excess : ℤ) (end : Ends) (flow : ℕ) (price : ℤ) : Type 0 where
  pub some : pos 0 <ℤ excess
  pub from : end.from ≡ v
  pub to : end.to ≡ root
  pub carries : pos flow ≡ excess
  pub priced : price ≡ neg_ℤ (pos (2 ^ 57))

-- that of another node carries from the root what the node is to take
pub record IsIn (root v : ℕ) (excess : ℤ) (end : Ends) (flow : ℕ) (price : ℤ) : Type 0 where
  pub none : excess ≤ℤ pos 0
  pub from : end.from ≡ root
  pub to : end.to ≡ v
  pub carries : pos flow ≡ neg_ℤ excess
  pub priced : price ≡ pos (2 ^ 57)

abbrev pub IsSpoke : ℕ → ℕ → ℤ → Ends → ℕ → ℤ → Type 0
IsSpoke root v excess end flow price =
    IsOut root v excess end flow price ⊎ IsIn root v excess end flow price

-- ---- list by list: an entry k is that of an arc, where those of the digraph come first, or of a
-- node

pub record IsEnd (g : Numbered) (excess : ℕ → ℤ) (k : ℕ) (end : Ends) : Type 0 where
  pub from : k < g.arcs → end.from ≡ g.from k
  pub to : k < g.arcs → end.to ≡ g.to k
  pub out : (v : ℕ) → k ≡ g.arcs + v → pos 0 <ℤ excess v
      → (end.from ≡ v) × (end.to ≡ g.nodes)
  pub into : (v : ℕ) → k ≡ g.arcs + v → excess v ≤ℤ pos 0
      → (end.from ≡ g.nodes) × (end.to ≡ v)

pub record AreEnds (g : Numbered) (excess : ℕ → ℤ) (ends : List Ends) : Type 0 where
  pub all : length ends ≡ g.arcs + g.nodes
  pub each : (k : ℕ) → k < g.arcs + g.nodes → IsEnd g excess k (ends_at ends k)

pub record IsLoad (m : ℕ) (excess : ℕ → ℤ) (k load : ℕ) : Type 0 where
  pub inner : k < m → load ≡ 0
  pub out : (v : ℕ) → k ≡ m + v → pos 0 <ℤ excess v → pos load ≡ excess v
  pub into : (v : ℕ) → k ≡ m + v → excess v ≤ℤ pos 0 → pos load ≡ neg_ℤ (excess v)

pub record AreLoads (m n : ℕ) (excess : ℕ → ℤ) (loads : List ℕ) : Type 0 where
  pub all : length loads ≡ m + n
  pub each : (k : ℕ) → k < m + n → IsLoad m excess k (at loads k)

pub record IsFirstPrice (excess price : ℤ) : Type 0 where
  pub out : pos 0 <ℤ excess → price ≡ neg_ℤ (pos (2 ^ 57))
  pub into : excess ≤ℤ pos 0 → price ≡ pos (2 ^ 57)

pub record AreFirstPrices (n : ℕ) (excess : ℕ → ℤ) (prices : List ℤ) : Type 0 where
  pub all : length prices ≡ n + 1
  pub each : (v : ℕ) → v < n → IsFirstPrice (excess v) (price_at prices v)
  pub top : price_at prices n ≡ pos 0

-- ---- together

-- the ends of the arcs, the flow and the potentials
pub record IsFirstFlow (g : Numbered) (excess : ℕ → ℤ) (ends : List Ends) (flow : List ℕ)
    (price : List ℤ) : Type 0 where
  pub ends_all : length ends ≡ g.arcs + g.nodes
  pub flow_all : length flow ≡ g.arcs + g.nodes
  pub price_all : length price ≡ g.nodes + 1
  pub from : (k : ℕ) → k < g.arcs → (ends_at ends k).from ≡ g.from k
  pub to : (k : ℕ) → k < g.arcs → (ends_at ends k).to ≡ g.to k
  pub still : (k : ℕ) → k < g.arcs → at flow k ≡ 0
  pub rim : (v : ℕ) → v < g.nodes → IsSpoke g.nodes v (excess v) (ends_at ends (g.arcs + v))
      (at flow (g.arcs + v)) (price_at price v)
  pub top : price_at price g.nodes ≡ pos 0

-- a tree in which each of n nodes hangs on the root, which is the last, by its added arc
pub record IsFirstTree (n m : ℕ) (parent arc depth first next prev : List ℕ) : Type 0 where
  pub parent_all : length parent ≡ n + 1
  pub arc_all : length arc ≡ n + 1
  pub depth_all : length depth ≡ n + 1
  pub first_all : length first ≡ n + 1
  pub next_all : length next ≡ n + 1
  pub prev_all : length prev ≡ n + 1
  pub hangs : (v : ℕ) → v < n → at parent v ≡ n
  pub hangs_by : (v : ℕ) → v < n → at arc v ≡ m + v
  pub deep : (v : ℕ) → v < n → at depth v ≡ 1
  pub top : at depth n ≡ 0
  pub first_top : at first n ≡ 0
  pub first_low : (v : ℕ) → v < n → at first v ≡ n
  pub next_low : (v : ℕ) → v < n → at next v ≡ v + 1
  pub next_top : at next n ≤ n
  pub prev_zero : 0 < n → at prev 0 ≡ n
  pub prev_more : (v : ℕ) → v < n → at prev (v + 1) ≡ v
  pub prev_top : at prev n ≤ n
