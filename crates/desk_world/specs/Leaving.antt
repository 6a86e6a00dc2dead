-- A world whose digraph was altered, before the guards that left go out of its table.
use Rattle.std.specs.Prelude.{◌≡◌, Bool, ◌||◌, is_some, List, [], filter, map}
use Rattle.base_items.specs.declared.items.ItemSort.{ItemSort}
use Rattle.observe_core.specs.Seen.{Watched}
use Rattle.alter_graph.specs.Chains.{ChainSeen, ChainsSeen, chain_in, chains_seen}
use Rattle.alter_graph.specs.State as graph
use Rattle.alter_graph.specs.State.{state_of}
use Rattle.desk_world.specs.declared.world.World.{World}
use Rattle.desk_world.specs.Claims.{Claim, claims_of, has_map_kind}
use Rattle.desk_world.specs.InStep.{AreSeated, AreBoxes}
use Rattle.desk_world.specs.Derived.{AreDerived}
use Rattle.desk_world.specs.KeptViews.{AreKept}
use Rattle.desk_world.specs.Looks.{look_in}
use Rattle.desk_world.specs.Plain.{look_of}

-- whether the claim is one of a seat that is there, as every seat but that of a guard is
abbrev pub is_still : ChainsSeen → Claim → Bool
is_still c x = has_map_kind x.role || is_some (look_in c x.sort x.key)

-- the claims without those of guards that have left
abbrev pub still_claimed : ChainsSeen → List Claim → List Claim
still_claimed c claims = filter (is_still c) claims

-- the seats of the chains, with no key of one that left to be taken
abbrev pub without_left : ChainSeen → ChainSeen
without_left d = record d { left = [] }

abbrev pub with_none_left : ChainsSeen → ChainsSeen
with_none_left c = record c { nodes = without_left c.nodes; arcs = without_left c.arcs }

module _ {O : Type 0} (watch : O → Watched) where
  -- all is in step, but that guards that have left may still stand in the table
  pub record AreAltered (w : World O) : Type 0 where
    pub graph : graph.IsInStep (state_of watch w.graph)
    pub seated : AreSeated (still_claimed (chains_seen watch w.graph.chains) (claims_of w))
        (with_none_left (chains_seen watch w.graph.chains))
    pub boxes : AreBoxes watch w.pool.items
    pub snaps : (chains_seen watch w.graph.chains).snaps ≡ map (λ e. e.value) w.snapshots.rows
    pub derived : AreDerived (look_of watch w) w.nodes w.arcs w.attributes.rows
    pub kept : AreKept (look_of watch w) w.nodes w.arcs w.views.rows
    -- where no key of a guard that left is to be taken, none has
    pub all_there : ((sort : ItemSort)
        → (chain_in sort (chains_seen watch w.graph.chains)).left ≡ [])
        → still_claimed (chains_seen watch w.graph.chains) (claims_of w) ≡ claims_of w
