-- The plain state of an alterable digraph: the digraph, and what is seen of the two chains.
use Rattle.std.specs.Prelude.{◌≡◌, ℕ, ◌+◌, ◌*◌, ◌≤◌, List, [], length, refl}
use Rattle.std.specs.Coded.{Coded, code_by, coded×}
use Rattle.base_items.specs.declared.items.Fact.{Fact}
use Rattle.base_items.specs.declared.limits.TheConstants.{MAX_ARCS}
use Rattle.plain_digraph.specs.Lists.{AllOf}
use Rattle.plain_digraph.specs.Digraph.{Digraph}
use Rattle.plain_digraph.specs.PlainSteps.{PlainStep}
use Rattle.plain_digraph.specs.Valid.{IsValid}
use Rattle.list_digraph.specs.Roomy.{Roomy, roomy_code}
use Rattle.observe_core.specs.Seen.{Watched}
use Rattle.observe_core.specs.Fits.{Fits}
use Rattle.notify_chain.specs.Seats.{SeatSeen, AllSeats}
use Rattle.alter_graph.specs.declared.snaps.SnapKeys.{SnapKeys}
use Rattle.alter_graph.specs.Chains.{ChainsOf, chains_code, ChainsSeen, chains_seen, IsSameChains}
use Rattle.alter_graph.specs.Present.{Present, present_of}
use Rattle.alter_graph.specs.Snaps.{SnapsHold, Follows}

-- the value of an alterable digraph
pub record AlterOf (O : Type 0) : Type 0 where
  pub graph : Roomy
  pub chains : ChainsOf O

-- it is stored as a pair
abbrev pub alter_code : {O : Type 0} → Coded O → Coded (AlterOf O)
alter_code {O} code =
    code_by (Roomy × ChainsOf O) (coded× roomy_code (chains_code code)) (λ a. (a.graph, a.chains))
    (λ p. record { graph = p.0; chains = p.1 }) (λ _. refl)

pub record State : Type 0 where
  pub graph : Digraph
  pub chains : ChainsSeen

abbrev pub state_of : {O : Type 0} → (O → Watched) → AlterOf O → State
state_of watch a = record { graph = a.graph.graph; chains = chains_seen watch a.chains }

-- all is as before, but for room and reach, which never fall
pub record IsSame (old new : State) : Type 0 where
  pub graph : new.graph ≡ old.graph
  pub chains : IsSameChains old.chains new.chains

-- ---- the seat conditions

-- the seat stands for these facts, and the stamps used bound its counts
pub record Stands (stamps : ℕ) (live : List Fact) (s : SeatSeen) : Type 0 where
  pub fits : Fits s.seen live
  pub added : s.seen.added ≤ stamps
  pub erased : s.seen.erased + length live ≤ stamps + 2 * MAX_ARCS
  pub moved : s.seen.moved ≤ stamps

-- each seat stands for the live items of its sort, and the law of snapshots holds
pub record InStep (p : Present) (c : ChainsSeen) : Type 0 where
  pub nodes : AllSeats (Stands p.stamps p.nodes) c.nodes.seats
  pub arcs : AllSeats (Stands p.stamps p.arcs) c.arcs.seats
  pub snaps : SnapsHold p c

-- the digraph is valid, and the observers are in step with it
pub record IsInStep (s : State) : Type 0 where
  pub valid : IsValid s.graph
  pub seats : InStep (present_of s.graph) s.chains

-- the snapshots that are there are those from before, and each follows the steps
pub record SnapsFollow (steps : List PlainStep) (old new : State) : Type 0 where
  pub names : new.chains.snaps ≡ old.chains.snaps
  pub each : AllOf
      (Follows steps (present_of old.graph) old.chains (present_of new.graph) new.chains)
      old.chains.snaps

-- these snapshots are as valid as they were, and while they are valid their copies stay
abbrev pub SnapsStay : List SnapKeys → State → State → Type 0
SnapsStay names old new =
    AllOf (Follows [] (present_of old.graph) old.chains (present_of new.graph) new.chains) names
