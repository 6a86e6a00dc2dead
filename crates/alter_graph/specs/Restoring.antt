-- How a restore ends.
use Rattle.std.specs.Prelude.{◌≡◌, ◌+◌, ◌<◌, ◌≤◌, false, IsTrue, List, [], ◌++◌, map, length}
use Rattle.base_items.specs.declared.items.ItemSort.TheVariants as sorts
use Rattle.base_items.specs.declared.limits.Limit.TheVariants as limits
use Rattle.base_items.specs.declared.limits.TheConstants.{MAX_STAMP}
use Rattle.plain_digraph.specs.Lists.{AllOf}
use Rattle.plain_digraph.specs.Digraph.{Digraph}
use Rattle.plain_digraph.specs.Items.{facts}
use Rattle.plain_digraph.specs.PlainSteps.{PlainStep, PlaceBack, EraseArc, EraseNode}
use Rattle.plain_digraph.specs.Copies.{copy_of}
use Rattle.plain_digraph.specs.Alterations.{restoring}
use Rattle.plain_digraph.specs.Valid.{IsValid}
use Rattle.alter_graph.specs.declared.faults.AlterFault.{AlterFault}
use Rattle.alter_graph.specs.declared.faults.AlterFault.TheVariants as fault
use Rattle.alter_graph.specs.declared.snaps.SnapKeys.{SnapKeys}
use Rattle.alter_graph.specs.Chains.{ChainsSeen}
use Rattle.alter_graph.specs.Present.{present_of}
use Rattle.alter_graph.specs.Snaps.{is_valid, node_half, arc_half, added_of, kept_of, saved_by}
use Rattle.alter_graph.specs.Snaps.{Follows}
use Rattle.alter_graph.specs.Snapping.{forgotten}
use Rattle.alter_graph.specs.State.{State, IsInStep}
use Rattle.alter_graph.specs.Outcome.{Goes, Alters, Happens, Stays, Refuses}
use Rattle.alter_graph.specs.Verdict.{guards_of, Passes}
use Rattle.alter_graph.specs.Contraction.{IsUnchanged}

-- the arcs that moved since the making go back, by rising id
abbrev pub places : SnapKeys → ChainsSeen → List PlainStep
places k c = map PlaceBack (kept_of (arc_half k c))

-- the moved arcs of a valid snapshot were placed back
pub record PlacesBack (k : SnapKeys) (old new : State) : Type 0 where
  pub valid : IsTrue (is_valid k old.chains)
  pub alters : Alters (places k old.chains) (places k old.chains) old new
  pub back : kept_of (arc_half k new.chains) ≡ []
  pub added : added_of (arc_half k new.chains) ≡ added_of (arc_half k old.chains)
  pub nodes : node_half k new.chains ≡ node_half k old.chains

-- the snapshot may have been made of this digraph: what is told of its items is what was told of
-- them at the making
pub record IsMaking (k : SnapKeys) (s : State) (making : Digraph) : Type 0 where
  pub valid : IsValid making
  pub nodes : (saved_by k (present_of s.graph) s.chains).nodes ≡ facts making sorts.Node
  pub arcs : (saved_by k (present_of s.graph) s.chains).arcs ≡ facts making sorts.Arc

-- the restoring of a valid snapshot was refused
pub record Declines (k : SnapKeys) (old new : State) (why : AlterFault) : Type 0 where
  pub valid : IsTrue (is_valid k old.chains)
  pub stays : Stays (places k old.chains) old new why
  pub refuses : (making : Digraph) → IsMaking k old making
      → Refuses (restoring (copy_of making)) old new why

-- each moved arc takes a stamp to go back, and as many are left; or fewer
abbrev pub HasStampsFor : SnapKeys → State → Type 0
HasStampsFor k s = s.graph.stamps + length (places k s.chains) ≤ MAX_STAMP

abbrev pub LacksStampsFor : SnapKeys → State → Type 0
LacksStampsFor k s = MAX_STAMP < s.graph.stamps + length (places k s.chains)

-- all is as before: Stale where the flag is down, Full where it is up and fewer stamps are left
-- than arcs moved, Vetoed where there are enough and a guard refuses. Want of memory may come at
-- any place
abbrev pub LeavesAll : SnapKeys → State → State → AlterFault → Type 0
LeavesAll k old new (fault.Vetoed sort key) =
    HasStampsFor k old × Declines k old new (fault.Vetoed sort key)
LeavesAll k old new fault.SameNode = ⊥
LeavesAll k old new (fault.Full limit) =
    (limit ≡ limits.Stamps) × LacksStampsFor k old × Declines k old new (fault.Full limit)
LeavesAll k old new fault.Stale = (is_valid k old.chains ≡ false) × IsUnchanged old new
LeavesAll k old new fault.Memory = IsUnchanged old new

-- ---- the whole

-- the moved arcs go back, and then the added arcs and the added nodes go, each by rising id
abbrev pub restoring_steps : SnapKeys → ChainsSeen → List PlainStep
restoring_steps k c = places k c
    ++ map EraseArc (added_of (arc_half k c)) ++ map EraseNode (added_of (node_half k c))

-- all steps were taken, no guard refuses one of the first part, and the snapshot is gone. What is
-- told of the items is what was told of them at the making, so the lists of nodes and arcs with
-- their ends and orders are those of the making again. Other snapshots follow the steps
pub record Restores (k : SnapKeys) (old new : State) : Type 0 where
  pub valid : IsTrue (is_valid k old.chains)
  pub room : HasStampsFor k old
  pub passes : Passes (guards_of old.chains) (places k old.chains) old.graph
  -- before the snapshot goes
  pub restored : State
  pub goes : Goes (restoring_steps k old.chains) old restored
  pub happens : (making : Digraph) → IsMaking k old making
      → Happens (restoring (copy_of making)) old restored
  pub graph : new.graph ≡ restored.graph
  pub gone : new.chains ≡ forgotten k restored.chains
  pub others : AllOf
      (Follows (restoring_steps k old.chains) (present_of old.graph) old.chains
      (present_of new.graph) new.chains)
      new.chains.snaps
  pub nodes : facts new.graph sorts.Node ≡ (saved_by k (present_of old.graph) old.chains).nodes
  pub arcs : facts new.graph sorts.Arc ≡ (saved_by k (present_of old.graph) old.chains).arcs
  pub lists : (making : Digraph) → IsMaking k old making → copy_of new.graph ≡ copy_of making
  pub in_step : IsInStep new
