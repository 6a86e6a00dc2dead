-- Potentials and levels, which show that no cycle is left to be cancelled.
use Rattle.std.specs.Prelude.{◌≡◌, ℕ, ◌*◌, ◌<◌, ◌^◌, ℤ, pos, neg_ℤ, ◌≤ℤ◌, ◌<ℤ◌, List, length}
use Rattle.std.specs.Prelude.{Option, None, Some}
use Rattle.plain_certificates.specs.Cheapest.{reduced_cost}
use Rattle.plain_certificates.specs.Numbered.{Numbered}
use Rattle.plain_certificates.specs.Tables.{at}
use Rattle.pace_search.specs.declared.search.CycleSearch.{CycleSearch}
use Rattle.pace_search.specs.declared.search.CycleSearch.TheVariants as answers
use Rattle.task_bounds.specs.Answers.{IsFree}

-- by the potentials no arc with room is cheap, and none that carries something is dear
pub record HasNoGain (g : Numbered) (cap : ℕ → ℕ) (cost : ℕ → ℤ) (sent : ℕ → ℕ) (pi : ℕ → ℤ)
    : Type 0 where
  pub up : (k : ℕ) → k < g.arcs → sent k < cap k → pos 0 ≤ℤ reduced_cost g cost pi k
  pub down : (k : ℕ) → k < g.arcs → 0 < sent k → reduced_cost g cost pi k ≤ℤ pos 0

-- such potentials, one for each node, from 0 down to 2^36 for each
pub record ArePrices (g : Numbered) (cap : ℕ → ℕ) (cost : ℕ → ℤ) (sent : ℕ → ℕ) (pi : List ℤ)
    : Type 0 where
  pub all : length pi ≡ g.nodes
  pub low : (v : ℕ) → v < g.nodes → neg_ℤ (pos (2 ^ 36 * g.nodes)) ≤ℤ at (pos 0) pi v
  pub high : (v : ℕ) → v < g.nodes → at (pos 0) pi v ≤ℤ pos 0
  pub no_gain : HasNoGain g cap cost sent (at (pos 0) pi)

-- such potentials, or a free cycle
abbrev pub Cancelled : Numbered → (ℕ → ℕ) → (ℕ → ℤ) → (ℕ → ℕ) → CycleSearch → Type 0
Cancelled g cap cost sent (answers.Potential pi) = ArePrices g cap cost sent pi.items
Cancelled g cap cost sent (answers.Cycle round) = IsFree g cap cost round.items

-- levels of the nodes that fall along each arc without an upper bound that carries something
pub record HasLevels (g : Numbered) (cap sent : ℕ → ℕ) : Type 0 where
  pub level : ℕ → ℤ
  pub falls : (k : ℕ) → k < g.arcs → cap k ≡ 2 ^ 62 → 0 < sent k
      → level (g.to k) <ℤ level (g.from k)

-- such levels, or a free cycle
abbrev pub Lowered : Numbered → (ℕ → ℕ) → (ℕ → ℤ) → (ℕ → ℕ) → Option (List ℕ) → Type 0
Lowered g cap cost sent None = HasLevels g cap sent
Lowered g cap cost sent (Some cycle) = IsFree g cap cost cycle
