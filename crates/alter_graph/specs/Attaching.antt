-- Seats come and go.
use Rattle.std.specs.Prelude.{◌≡◌, ℕ, ◌==◌, Bool, not, List, [], ◌∷◌, filter, Option, Some, None}
use Rattle.base_items.specs.declared.items.ItemSort.{ItemSort}
use Rattle.base_items.specs.declared.items.ItemSort.TheVariants as sorts
use Rattle.plain_digraph.specs.Rising.{without_item}
use Rattle.plain_digraph.specs.Items.{facts}
use Rattle.observe_core.specs.Seen.{Seen, Watched}
use Rattle.observe_core.specs.Told.{built}
use Rattle.notify_chain.specs.Seats.{SeatSeen, seat_key, Attached}
use Rattle.alter_graph.specs.declared.snaps.SnapKeys.{SnapKeys}
use Rattle.alter_graph.specs.Chains.{ChainSeen, ChainsSeen, seats_in, in_chain}
use Rattle.alter_graph.specs.State.{State, SnapsStay}

-- nothing was counted yet
pub record HasNoCounts (s : Seen) : Type 0 where
  pub added : s.added ≡ 0
  pub erased : s.erased ≡ 0
  pub moved : s.moved ≡ 0

-- the chain has these seats
abbrev pub with_seats : List SeatSeen → ChainSeen → ChainSeen
with_seats ss c = record { seats = ss; left = c.left }

-- the observer was told of all live items of the sort and has the newest seat of its chain, under a
-- key that no seat has, and all else is as before
pub record Attaches (sort : ItemSort) (key : ℕ) (came : Watched) (old new : State) : Type 0 where
  pub graph : new.graph ≡ old.graph
  pub seat : Attached (seats_in sort old.chains) (seats_in sort new.chains) key came
      (built (facts old.graph sort) came.seen)
  pub rest : new.chains ≡ in_chain sort (with_seats (seats_in sort new.chains)) old.chains
  pub snaps : SnapsStay old.chains.snaps old new

-- whether the key is that of the snapshot's half of the sort
abbrev pub uses_key : ItemSort → ℕ → SnapKeys → Bool
uses_key sorts.Node key k = k.nodes.0 == key
uses_key sorts.Arc key k = k.arcs.0 == key

-- without the seat of the key, and without a snapshot whose half has it
abbrev pub detached : ItemSort → ℕ → ChainsSeen → ChainsSeen
detached sort key c =
    record (in_chain sort (λ d. with_seats (without_item seat_key key d.seats) d) c) {
      snaps = filter (λ k. not (uses_key sort key k)) c.snaps;
    }

-- ---- those that left by themselves: the node chain's come first

abbrev pub first_left : List ℕ → List ℕ → Option (ItemSort × ℕ)
first_left (key ∷ nodes) arcs = Some (sorts.Node, key)
first_left [] (key ∷ arcs) = Some (sorts.Arc, key)
first_left [] [] = None

abbrev pub rest_of_nodes : List ℕ → List ℕ
rest_of_nodes [] = []
rest_of_nodes (key ∷ nodes) = nodes

abbrev pub rest_of_arcs : List ℕ → List ℕ → List ℕ
rest_of_arcs (key ∷ nodes) arcs = arcs
rest_of_arcs [] [] = []
rest_of_arcs [] (key ∷ arcs) = arcs

abbrev pub popped : ChainsSeen → ChainsSeen
popped c = record {
  nodes = record { seats = c.nodes.seats; left = rest_of_nodes c.nodes.left };
  arcs = record { seats = c.arcs.seats; left = rest_of_arcs c.nodes.left c.arcs.left };
  snaps = c.snaps;
}
