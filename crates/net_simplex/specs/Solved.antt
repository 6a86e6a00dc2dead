-- What a run leaves.
use Rattle.std.specs.Prelude.{◌≡◌, ℕ, ◌+◌, ◌≤◌, ◌^◌, ℤ, List, length, Option, MatchOption}
use Rattle.plain_certificates.specs.Cheapest.{IsBasic}
use Rattle.plain_certificates.specs.Numbered.{Numbered, EndsAreNodes}
use Rattle.plain_certificates.specs.Rooms.{as_flow}
use Rattle.pivot_flow.specs.declared.pivots.Endless.{Endless}
use Rattle.pivot_flow.specs.Enter.{MayEnter, NoneEnters, enter_room, head_of, tail_of}
use Rattle.pivot_flow.specs.Look.{IsLook}
use Rattle.pivot_flow.specs.Spread.{price_at}
use Rattle.pivot_flow.specs.State.{IsCosted, cap_bounds}
use Rattle.pivot_flow.specs.Tree.{Task, Tree, at, task_of, tree_of}
use Rattle.net_simplex.specs.declared.solved.Solved.{Solved}
use Rattle.net_simplex.specs.Network.{IsRooted, IsRunning}

-- a cycle on which nothing blocks
abbrev pub IsEndless : Task → (ℕ → ℤ) → Tree → (ℕ → ℕ) → (ℕ → ℤ) → Endless → Type 0
IsEndless t cost h f y x =
    MayEnter t cost f y x.entering.arc x.entering.forward
    × (IsLook t h f (tail_of t.net x.entering.arc x.entering.forward)
    (head_of t.net x.entering.arc x.entering.forward)
    (enter_room t f x.entering.arc x.entering.forward) x.found.apex x.found.apex x.found.step
    x.found.leaves × (2 ^ 61 ≤ x.found.step))

-- a state of the network in which no arc may enter, or one with an endless cycle
pub record IsLast (g : Numbered) (excess : ℕ → ℤ) (t : Task) (cost : ℕ → ℤ) (h : Tree)
    (f : ℕ → ℕ) (y : ℕ → ℤ) (endless : Option Endless) : Type 0 where
  pub rooted : IsRooted g t
  pub ends : EndsAreNodes t.net
  pub costed : IsCosted t cost
  pub running : IsRunning g excess t cost h f y
  pub basic : IsBasic t.net (cap_bounds t running.sends) (as_flow f)
  pub stops : MatchOption endless (NoneEnters t cost f y) (λ x. IsEndless t cost h f y x)

-- the lists have such a state
pub record IsSolved (g : Numbered) (excess : ℕ → ℤ) (cap : List ℕ) (cost : List ℤ)
    (solved : Solved) : Type 0 where
  pub sent_all : length solved.flow.sent.items ≡ g.arcs + g.nodes
  pub price_all : length solved.flow.price.items ≡ g.nodes + 1
  pub parent_all : length solved.tree.parent.items ≡ g.nodes + 1
  pub arc_all : length solved.tree.arc.items ≡ g.nodes + 1
  pub depth_all : length solved.tree.depth.items ≡ g.nodes + 1
  pub count : ℕ
  pub count_is : count ≡ g.nodes + 1
  pub last : IsLast g excess (task_of count solved.flow.ends.items cap)
      (price_at cost)
      (tree_of solved.tree.parent.items solved.tree.arc.items solved.tree.depth.items)
      (at solved.flow.sent.items) (price_at solved.flow.price.items) solved.endless
