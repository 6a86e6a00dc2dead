-- A flow on its way in lists, before and after a run of the engine.
use Rattle.std.specs.Prelude.{◌≡◌, ℕ, ◌+◌, ◌<◌, ◌≤◌, ◌^◌, List, length}
use Rattle.plain_certificates.specs.Numbered.{Numbered, EndsAreNodes}
use Rattle.push_flow.specs.declared.push.Ends.{Ends}
use Rattle.push_flow.specs.declared.push.Spoke.{Spoke}
use Rattle.push_flow.specs.Held.{Supply, Task, IsHeld, supply_of}
use Rattle.push_flow.specs.Search.{IsShut}
use Rattle.push_flow.specs.Slices.{at, graph_of, spoke_at, task_of, AreRows}
use Rattle.flow_loads.specs.declared.loads.Load.{Load}

-- the digraph with these capacities
abbrev pub task_in : Numbered → (ℕ → ℕ) → Task
task_in g cap = record { graph = g; cap = cap }

-- what each node of a load supplies in all
abbrev pub load_supply : Task → Load → ℕ → Supply
load_supply t load = supply_of t (at load.flow.items) (at load.excess.items) (at load.want.items)

-- the lists of the load have a value for each arc or node, and its flow is held
pub record IsLoaded (ends : List Ends) (start : List ℕ) (row : List Spoke) (cap : List ℕ)
    (load : Load) : Type 0 where
  pub caps_all : length cap ≡ length ends
  pub starts_all : length start ≡ length load.height.items + 1
  pub flow_all : length load.flow.items ≡ length ends
  pub excess_all : length load.excess.items ≡ length load.height.items
  pub want_all : length load.want.items ≡ length load.height.items
  pub few : length load.height.items ≤ 2 ^ 20
  pub ends_in : EndsAreNodes (graph_of (length load.height.items) ends)
  pub rows : AreRows (task_of (length load.height.items) ends cap) (at start) (spoke_at row)
      (length row)
  pub held : let t = task_of (length load.height.items) ends cap in
      IsHeld t (load_supply t load) (at load.flow.items) (at load.excess.items)
      (at load.want.items) (at load.height.items)

-- nothing more can be moved, and each node supplies what it did
pub record HasSettled (t : Task) (old new : Load) : Type 0 where
  pub flow_all : length new.flow.items ≡ length old.flow.items
  pub excess_all : length new.excess.items ≡ length old.excess.items
  pub want_all : length new.want.items ≡ length old.want.items
  pub height_all : length new.height.items ≡ length old.height.items
  pub held : IsHeld t (load_supply t old) (at new.flow.items) (at new.excess.items)
      (at new.want.items) (at new.height.items)
  pub shut : IsShut t (at new.flow.items) (at new.height.items)
  pub quiet : (v : ℕ) → v < t.graph.nodes → at new.height.items v < t.graph.nodes
      → at new.excess.items v ≡ 0
