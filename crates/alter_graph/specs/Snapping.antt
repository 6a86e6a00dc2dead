-- Snapshots are made and forgotten.
use Rattle.std.specs.Prelude.{◌≡◌, true, List, [], ◌∷◌, ◌++◌, None}
use Rattle.base_items.specs.declared.items.Fact.{Fact}
use Rattle.base_items.specs.declared.items.ItemSort.TheVariants as sorts
use Rattle.observe_core.specs.Seen.{Watched}
use Rattle.observe_core.specs.Told.{built}
use Rattle.notify_chain.specs.Seats.{SeatSeen, Attached, find_seat}
use Rattle.alter_graph.specs.declared.snaps.SnapKeys.{SnapKeys}
use Rattle.alter_graph.specs.Chains.{ChainsSeen}
use Rattle.alter_graph.specs.Present.{present_of}
use Rattle.alter_graph.specs.Snaps.{saved_by, is_valid}
use Rattle.alter_graph.specs.State.{State, SnapsStay}
use Rattle.alter_graph.specs.Attaching.{with_seats, detached}

-- an observer of either sort was seated, and the name of both was put last
pub record Seated (name : SnapKeys) (node arc : Watched) (all_nodes all_arcs : List Fact)
    (old new : ChainsSeen) : Type 0 where
  pub nodes : Attached old.nodes.seats new.nodes.seats name.nodes.0 node (built all_nodes node.seen)
  pub arcs : Attached old.arcs.seats new.arcs.seats name.arcs.0 arc (built all_arcs arc.seen)
  pub nodes_left : new.nodes.left ≡ old.nodes.left
  pub arcs_left : new.arcs.left ≡ old.arcs.left
  pub names : new.snaps ≡ old.snaps ++ name ∷ []

-- a valid snapshot of what is there, by a new last seat in either chain, under a key that no seat
-- of it has; all else is as before
pub record Makes (name : SnapKeys) (old new : State) : Type 0 where
  pub graph : new.graph ≡ old.graph
  pub node_seat : SeatSeen
  pub node_key : node_seat.key ≡ name.nodes.0
  pub node_new : find_seat name.nodes.0 old.chains.nodes.seats ≡ None
  pub nodes : new.chains.nodes
      ≡ with_seats (old.chains.nodes.seats ++ node_seat ∷ []) old.chains.nodes
  pub arc_seat : SeatSeen
  pub arc_key : arc_seat.key ≡ name.arcs.0
  pub arc_new : find_seat name.arcs.0 old.chains.arcs.seats ≡ None
  pub arcs : new.chains.arcs ≡ with_seats (old.chains.arcs.seats ++ arc_seat ∷ []) old.chains.arcs
  pub names : new.chains.snaps ≡ old.chains.snaps ++ name ∷ []
  pub others : SnapsStay old.chains.snaps old new
  pub valid : is_valid name new.chains ≡ true
  pub copy : saved_by name (present_of new.graph) new.chains
      ≡ record {
        nodes = (present_of old.graph).nodes;
        arcs = (present_of old.graph).arcs;
      }

-- without both halves
abbrev pub forgotten : SnapKeys → ChainsSeen → ChainsSeen
forgotten name c = detached sorts.Arc name.arcs.0 (detached sorts.Node name.nodes.0 c)
