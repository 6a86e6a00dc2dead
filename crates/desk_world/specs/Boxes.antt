-- Boxes of guards that are seated, that go back to their places, and that come back.
use Rattle.std.specs.Prelude.{◌≡◌, ℕ, true, false, List, [], ◌∷◌, ◌++◌, take, Some}
use Rattle.std.specs.Prelude.{option_map, slice_get}
use Rattle.std.specs.List.{list_any, remove}
use Rattle.base_items.specs.declared.items.ItemSort.{ItemSort}
use Rattle.script_words.specs.declared.commands.GuardWord.{GuardWord}
use Rattle.plain_digraph.specs.Items.{facts}
use Rattle.observe_core.specs.declared.kinds.Veto.{Veto}
use Rattle.observe_core.specs.declared.kinds.Veto.TheVariants.{Refused}
use Rattle.observe_core.specs.Guards.{Law}
use Rattle.observe_core.specs.Seen.{Seen, Watched}
use Rattle.observe_core.specs.Told.{armed, cleared}
use Rattle.alter_graph.specs.Attaching.{Attaches, detached}
use Rattle.alter_graph.specs.Chains.{chains_seen}
use Rattle.alter_graph.specs.State as state
use Rattle.alter_graph.specs.State.{state_of}
use Rattle.plain_world.specs.Refusals.{is_kind}
use Rattle.desk_world.specs.declared.world.World.{World}
use Rattle.desk_world.specs.InStep.{AreInStep}
use Rattle.desk_world.specs.Looks.{look_in}
use Rattle.desk_world.specs.Plain.{plain_of}

-- the first of the kinds that is this one stands at the place
pub record IsFirstOf (kind : GuardWord) (place : ℕ) (kinds : List GuardWord) : Type 0 where
  pub none_before : list_any (is_kind kind) (take place kinds) ≡ false
  pub found : option_map (is_kind kind) (slice_get kinds place) ≡ Some true

-- there is a box at the place, of which this holds
pub record HasBoxAt {O : Type 0} (place : ℕ) (P : O → Type 0) (boxes : List O) : Type 0 where
  pub box : O
  pub at : slice_get boxes place ≡ Some box
  pub holds : P box

module _ {O : Type 0} (watch : O → Watched) where
  -- the box at the place was armed with the number, and is the newest seat of its chain now
  pub record WasSeated (place : ℕ) (sort : ItemSort) (limit key : ℕ) (old new : World O) : Type 0
    where
      pub box : O
      pub at : slice_get old.pool.items place ≡ Some box
      pub came : Watched
      pub armed_by : came.seen ≡ armed limit (watch box).seen
      pub attaches : Attaches sort key came (state_of watch old.graph) (state_of watch new.graph)
      pub in_step : state.IsInStep (state_of watch new.graph)
      pub pool : new.pool.items ≡ remove old.pool.items place
      pub others : new ≡ record old { graph = new.graph; pool = new.pool }

  -- it was refused, by its law or for want of memory, and is at its place again
  pub record WentBack (place : ℕ) (sort : ItemSort) (limit : ℕ) (veto : Veto) (old new : World O)
      : Type 0 where
    pub box : O
    pub at : slice_get old.pool.items place ≡ Some box
    pub law : veto ≡ Refused
        → Law (watch box).seen.kind limit (facts old.graph.graph.graph sort) → ⊥
    pub plain : plain_of watch new ≡ plain_of watch old
    pub in_step : AreInStep watch new
    pub stamps : new.graph.graph.graph ≡ old.graph.graph.graph

  -- the guard of the seat was told that all items go, and is the last box now
  pub record CameBack (sort : ItemSort) (key : ℕ) (old new : World O) : Type 0 where
    pub was : Seen
    pub at : look_in (chains_seen watch old.graph.chains) sort key ≡ Some was
    pub box : O
    pub told : (watch box).seen ≡ cleared was
    pub pool : new.pool.items ≡ old.pool.items ++ box ∷ []
    pub graph : new.graph.graph ≡ old.graph.graph
    pub gone : chains_seen watch new.graph.chains
        ≡ detached sort key (chains_seen watch old.graph.chains)
    pub in_step : state.IsInStep (state_of watch new.graph)
    pub others : new ≡ record old { graph = new.graph; pool = new.pool }
